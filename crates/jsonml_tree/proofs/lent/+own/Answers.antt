use Rattle.std.proofs.Common.{arith}
use Rattle.std.proofs.lemmas.Grind.{common_steps}
use Rattle.jsonml_tree.proofs.Trees.{trees}
use Rattle.jsonml_tree.proofs.LentTrees.{lent_trees}
use Rattle.jsonml_tree.proofs.lent.+own.Goals as goal

pub LentTree::own-returns-in-Text : goal.LentTree::own-returns-in-Text
LentTree::own-returns-in-Text t c = grind (arith, trees, lent_trees)

pub LentTree::own-returns-in_ok-own_row-in-Elem : goal.LentTree::own-returns-in_ok-own_row-in-Elem
LentTree::own-returns-in_ok-own_row-in-Elem t c = grind (arith, trees, lent_trees)

pub own_row-returns : goal.own_row-returns
own_row-returns t c = grind (arith, trees, lent_trees)

pub own_items-loop-item-preserved : goal.own_items-loop-item-preserved
own_items-loop-item-preserved t c = grind (arith, common_steps)

pub own_items-returns : goal.own_items-returns
own_items-returns t c = grind (arith, common_steps)

pub LentTree::own-returns-in_ok-of_text-in-Leaf : goal.LentTree::own-returns-in_ok-of_text-in-Leaf
LentTree::own-returns-in_ok-of_text-in-Leaf t c = grind (arith, trees, lent_trees)
