use Rattle.std.proofs.Common.{arith}
use Rattle.std.proofs.lemmas.Grind.{common_steps}
use Rattle.keyed_tree.proofs.Views.{views}
use Rattle.keyed_tree.proofs.keyed.+ordered.Goals as goal

pub Keyed::is_ordered-returns-then-do_ascend : goal.Keyed::is_ordered-returns-then-do_ascend
Keyed::is_ordered-returns-then-do_ascend t c = grind (arith, views)

pub Keyed::is_ordered-returns-else-do_ascend : goal.Keyed::is_ordered-returns-else-do_ascend
Keyed::is_ordered-returns-else-do_ascend t c = grind (arith, views)

pub Keyed::is_ordered-returns-in-Leaf : goal.Keyed::is_ordered-returns-in-Leaf
Keyed::is_ordered-returns-in-Leaf t c = grind (arith, views)

pub are_ordered-loop-kid-init : goal.are_ordered-loop-kid-init
are_ordered-loop-kid-init t c = grind (arith, common_steps)

pub are_ordered-returns-then-not-is_ordered : goal.are_ordered-returns-then-not-is_ordered
are_ordered-returns-then-not-is_ordered t c = grind (arith, common_steps)

pub are_ordered-loop-kid-preserved : goal.are_ordered-loop-kid-preserved
are_ordered-loop-kid-preserved t c = grind (arith, common_steps)

pub are_ordered-returns : goal.are_ordered-returns
are_ordered-returns t c = grind (arith, common_steps)
