use Rattle.std.proofs.Common.{arith}
use Rattle.std.proofs.lemmas.Grind.{common_steps}
use Rattle.version_set.proofs.pairs.is_canonical.Goals as goal

pub loop-from-init : goal.loop-from-init
loop-from-init c = grind (arith, common_steps)

pub returns-then-from-low : goal.returns-then-from-low
returns-then-from-low c = grind (arith, common_steps)

pub loop-from-preserved : goal.loop-from-preserved
loop-from-preserved c = grind (arith, common_steps)

pub returns : goal.returns
returns c = grind (arith, common_steps)
