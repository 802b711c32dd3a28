use Rattle.std.proofs.Common.{arith}
use Rattle.std.proofs.lemmas.Grind.{common_steps}
use Rattle.key_spec.proofs.close.put_along.Goals as goal

pub loop-tag-preserved : goal.loop-tag-preserved
loop-tag-preserved c = grind (arith, common_steps)

pub loop-tag-init : goal.loop-tag-init
loop-tag-init c = grind (arith, common_steps)

pub returns : goal.returns
returns c = grind (arith, common_steps)
