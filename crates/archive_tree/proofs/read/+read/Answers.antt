use Rattle.archive_tree.proofs.NodeViews.{readings}
use Rattle.std.proofs.Common.{arith}
use Rattle.std.proofs.lemmas.Grind.{common_steps}
use Rattle.archive_tree.proofs.read.+read.Goals as goal

pub read_kids-loop-node-init : goal.read_kids-loop-node-init
read_kids-loop-node-init t c = grind (arith, common_steps)

pub read_kids-loop-node-preserved : goal.read_kids-loop-node-preserved
read_kids-loop-node-preserved t c = grind (arith, common_steps)

pub read_kids-returns : goal.read_kids-returns
read_kids-returns t c = grind (arith, common_steps)

pub read_node-returns-in_ok-read_body-in-Leaf : goal.read_node-returns-in_ok-read_body-in-Leaf
read_node-returns-in_ok-read_body-in-Leaf t c = grind (arith, readings)

pub read_node-returns-in_ok-read_kids-in-Inner : goal.read_node-returns-in_ok-read_kids-in-Inner
read_node-returns-in_ok-read_kids-in-Inner t c = grind (arith, readings)
