use Rattle.keyed_tree.proofs.Views.{views}
use Rattle.std.proofs.Common.{arith}
use Rattle.std.proofs.lemmas.Grind.{common_steps}
use Rattle.keyed_tree.proofs.keyed.+copy.Goals as goal

pub copy_kids-loop-kid-preserved : goal.copy_kids-loop-kid-preserved
copy_kids-loop-kid-preserved t c = grind (arith, common_steps)

pub copy_kids-returns : goal.copy_kids-returns
copy_kids-returns t c = grind (arith, common_steps)

pub Keyed::copy-returns-in_ok-copy_kids-in-Inner : goal.Keyed::copy-returns-in_ok-copy_kids-in-Inner
Keyed::copy-returns-in_ok-copy_kids-in-Inner t c = grind (arith, views)

pub Keyed::copy-returns-in_ok-copy-in-Leaf-2 : goal.Keyed::copy-returns-in_ok-copy-in-Leaf-2
Keyed::copy-returns-in_ok-copy-in-Leaf-2 t c = grind (arith, views)

pub copy_kids-loop-kid-init : goal.copy_kids-loop-kid-init
copy_kids-loop-kid-init t c = grind (arith, common_steps)
