use Rattle.std.proofs.Common.{arith}
use Rattle.std.proofs.lemmas.Grind.{common_steps}
use Rattle.jsonml_tree.proofs.Trees.{trees}
use Rattle.jsonml_tree.proofs.tree.+copy.Goals as goal

pub Content::copy-returns : goal.Content::copy-returns
Content::copy-returns t c = grind (arith, trees)

pub Tree::copy-returns-in_ok-copy-in-Elem : goal.Tree::copy-returns-in_ok-copy-in-Elem
Tree::copy-returns-in_ok-copy-in-Elem t c = grind (arith, trees)

pub copy_items-loop-item-preserved : goal.copy_items-loop-item-preserved
copy_items-loop-item-preserved t c = grind (arith, common_steps)

pub copy_items-returns : goal.copy_items-returns
copy_items-returns t c = grind (arith, common_steps)
