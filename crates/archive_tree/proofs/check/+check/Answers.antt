use Rattle.archive_tree.proofs.NodeViews.{nodes}
use Rattle.std.proofs.Common.{arith}
use Rattle.std.proofs.lemmas.Grind.{common_steps}
use Rattle.archive_tree.proofs.check.+check.Goals as goal

pub are_nodes_well-loop-node-init : goal.are_nodes_well-loop-node-init
are_nodes_well-loop-node-init t c = grind (arith, common_steps)

pub are_nodes_well-loop-node-preserved : goal.are_nodes_well-loop-node-preserved
are_nodes_well-loop-node-preserved t c = grind (arith, common_steps)

pub are_nodes_well-returns : goal.are_nodes_well-returns
are_nodes_well-returns t c = grind (arith, common_steps)

pub are_nodes_well-returns-then-not-branch : goal.are_nodes_well-returns-then-not-branch
are_nodes_well-returns-then-not-branch t c = grind (arith, common_steps)

pub is_node_well-returns-else-do_labels_rise : goal.is_node_well-returns-else-do_labels_rise
is_node_well-returns-else-do_labels_rise t c = grind (arith, nodes)

pub is_node_well-returns-else-is_stamp_well-2 : goal.is_node_well-returns-else-is_stamp_well-2
is_node_well-returns-else-is_stamp_well-2 t c = grind (arith, nodes)

pub is_node_well-returns-in_ok-are_alts_well-in-Leaf : goal.is_node_well-returns-in_ok-are_alts_well-in-Leaf
is_node_well-returns-in_ok-are_alts_well-in-Leaf t c = grind (arith, nodes)

pub is_node_well-returns-in_ok-are_nodes_well-in-Inner : goal.is_node_well-returns-in_ok-are_nodes_well-in-Inner
is_node_well-returns-in_ok-are_nodes_well-in-Inner t c = grind (arith, nodes)
