use Rattle.std.proofs.Common.{arith}
use Rattle.std.proofs.lemmas.Grind.{common_steps}
use Rattle.key_spec.proofs.given.has_target.Goals as goal

pub loop-path-preserved : goal.loop-path-preserved
loop-path-preserved c = grind (arith, common_steps)

pub returns-then-is_none : goal.returns-then-is_none
returns-then-is_none c = grind (arith, common_steps)

pub returns : goal.returns
returns c = grind (arith, common_steps)
