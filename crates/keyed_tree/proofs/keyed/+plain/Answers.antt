use Rattle.std.proofs.Common.{arith}
use Rattle.std.proofs.lemmas.Grind.{common_steps}
use Rattle.keyed_tree.proofs.Views.{views}
use Rattle.jsonml_tree.proofs.Trees.{trees}
use Rattle.keyed_tree.proofs.keyed.+plain.Goals as goal

pub gather-returns : goal.gather-returns
gather-returns t c = grind (arith, views, trees)

pub items_of-loop-kid-init : goal.items_of-loop-kid-init
items_of-loop-kid-init t c = grind (arith, common_steps)

pub items_of-loop-kid-preserved : goal.items_of-loop-kid-preserved
items_of-loop-kid-preserved t c = grind (arith, common_steps)

pub items_of-returns : goal.items_of-returns
items_of-returns t c = grind (arith, common_steps)

pub spell-returns-in_ok-gather-in-Inner : goal.spell-returns-in_ok-gather-in-Inner
spell-returns-in_ok-gather-in-Inner t c = grind (arith, views, trees)

pub spell-returns-in_ok-copy_content-in-Leaf : goal.spell-returns-in_ok-copy_content-in-Leaf
spell-returns-in_ok-copy_content-in-Leaf t c = grind (arith, views, trees)
