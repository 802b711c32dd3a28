use Rattle.std.proofs.Common.{arith}
use Rattle.std.proofs.lemmas.Grind.{common_steps}
use Rattle.key_spec.proofs.given.exceeds.Goals as goal

pub loop-path-preserved : goal.loop-path-preserved
loop-path-preserved c = grind (arith, common_steps)

pub returns-then-len-gt-MAX_TAGS : goal.returns-then-len-gt-MAX_TAGS
returns-then-len-gt-MAX_TAGS c = grind (arith, common_steps)

pub returns : goal.returns
returns c = grind (arith, common_steps)
