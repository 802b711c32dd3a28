use Rattle.std.proofs.Common.{arith}
use Rattle.std.proofs.lemmas.Grind.{common_steps}
use Rattle.jsonml_tree.proofs.Trees.{trees}
use Rattle.jsonml_tree.proofs.LentTrees.{lent_trees}
use Rattle.jsonml_tree.proofs.lent.+lend.Goals as goal

pub LentTree::lend-returns-in-Text : goal.LentTree::lend-returns-in-Text
LentTree::lend-returns-in-Text t c = grind (arith, trees, lent_trees)

pub lend_row-returns : goal.lend_row-returns
lend_row-returns t c = grind (arith, trees, lent_trees)

pub lend_items-loop-tree-preserved : goal.lend_items-loop-tree-preserved
lend_items-loop-tree-preserved t c = grind (arith, common_steps)

pub lend_items-returns : goal.lend_items-returns
lend_items-returns t c = grind (arith, common_steps)

pub LentTree::lend_element-returns-in-Some : goal.LentTree::lend_element-returns-in-Some
LentTree::lend_element-returns-in-Some t c = grind (arith, trees, lent_trees)

pub LentTree::lend_element-returns-in_ok-lend_row-in-None : goal.LentTree::lend_element-returns-in_ok-lend_row-in-None
LentTree::lend_element-returns-in_ok-lend_row-in-None t c = grind (arith, trees, lent_trees)
