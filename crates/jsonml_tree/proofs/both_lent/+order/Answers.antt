use Rattle.std.proofs.Common.{arith}
use Rattle.std.proofs.lemmas.Grind.{common_steps}
use Rattle.jsonml_tree.proofs.Trees.{trees}
use Rattle.jsonml_tree.proofs.LentTrees.{lent_trees}
use Rattle.jsonml_tree.proofs.both_lent.+order.Goals as goal

pub order_items-loop-a-init : goal.order_items-loop-a-init
order_items-loop-a-init t c = grind (arith, common_steps)

pub order_items-returns-in_default : goal.order_items-returns-in_default
order_items-returns-in_default t c = grind (arith, common_steps)

pub order_items-returns-in_default-order_tree : goal.order_items-returns-in_default-order_tree
order_items-returns-in_default-order_tree t c = grind (arith, common_steps)

pub order_items-loop-a-preserved : goal.order_items-loop-a-preserved
order_items-loop-a-preserved t c = grind (arith, common_steps)

pub order_items-returns-then-is_some : goal.order_items-returns-then-is_some
order_items-returns-then-is_some t c = grind (arith, common_steps)

pub order_items-returns-else-is_some : goal.order_items-returns-else-is_some
order_items-returns-else-is_some t c = grind (arith, common_steps)

pub order_row-returns-in-Equal : goal.order_row-returns-in-Equal
order_row-returns-in-Equal t c = grind (arith, trees, lent_trees)
