use Rattle.std.proofs.Common.{arith}
use Rattle.std.proofs.lemmas.Grind.{common_steps}
use Rattle.jsonml_tree.proofs.Trees.{trees}
use Rattle.jsonml_tree.proofs.LentTrees.{lent_trees}
use Rattle.jsonml_tree.proofs.lent.+keep.Goals as goal

pub kept_items-loop-tree-preserved : goal.kept_items-loop-tree-preserved
kept_items-loop-tree-preserved t c = grind (arith, common_steps)

pub LentTree::keep-returns-in-Text : goal.LentTree::keep-returns-in-Text
LentTree::keep-returns-in-Text t c = grind (arith, trees, lent_trees)

pub LentTree::keep-returns-in_ok-kept_row-in-Elem : goal.LentTree::keep-returns-in_ok-kept_row-in-Elem
LentTree::keep-returns-in_ok-kept_row-in-Elem t c = grind (arith, trees, lent_trees)

pub kept_row-returns : goal.kept_row-returns
kept_row-returns t c = grind (arith, trees, lent_trees)
