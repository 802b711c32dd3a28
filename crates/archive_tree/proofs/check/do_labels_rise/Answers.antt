use Rattle.std.proofs.Common.{arith}
use Rattle.std.proofs.lemmas.Grind.{common_steps}
use Rattle.archive_tree.proofs.check.do_labels_rise.Goals as goal

pub loop-node-init : goal.loop-node-init
loop-node-init c = grind (arith, common_steps)

pub loop-node-preserved : goal.loop-node-preserved
loop-node-preserved c = grind (arith, common_steps)

pub returns : goal.returns
returns c = grind (arith, common_steps)

pub returns-in_default : goal.returns-in_default
returns-in_default c = grind (arith, common_steps)

pub returns-then-not-is_lt : goal.returns-then-not-is_lt
returns-then-not-is_lt c = grind (arith, common_steps)
