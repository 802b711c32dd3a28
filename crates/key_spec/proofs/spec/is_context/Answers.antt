use Rattle.std.proofs.Common.{arith}
use Rattle.std.proofs.lemmas.Grind.{common_steps}
use Rattle.key_spec.proofs.spec.is_context.Goals as goal

pub loop-rule-preserved : goal.loop-rule-preserved
loop-rule-preserved c = grind (arith, common_steps)

pub returns-then-are_same : goal.returns-then-are_same
returns-then-are_same c = grind (arith, common_steps)

pub returns : goal.returns
returns c = grind (arith, common_steps)
