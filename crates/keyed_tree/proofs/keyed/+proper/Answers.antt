use Rattle.std.proofs.Common.{arith}
use Rattle.std.proofs.lemmas.Grind.{common_steps}
use Rattle.keyed_tree.proofs.Views.{views}
use Rattle.keyed_tree.proofs.keyed.+proper.Goals as goal

pub Keyed::is_proper-returns-then-do_ascend : goal.Keyed::is_proper-returns-then-do_ascend
Keyed::is_proper-returns-then-do_ascend t c = grind (arith, views)

pub Keyed::is_proper-returns-else-do_ascend : goal.Keyed::is_proper-returns-else-do_ascend
Keyed::is_proper-returns-else-do_ascend t c = grind (arith, views)

pub Keyed::is_proper-returns-in-Attr-Content : goal.Keyed::is_proper-returns-in-Attr-Content
Keyed::is_proper-returns-in-Attr-Content t c = grind (arith, views)

pub Keyed::is_proper-returns-in-Tag-Scalar : goal.Keyed::is_proper-returns-in-Tag-Scalar
Keyed::is_proper-returns-in-Tag-Scalar t c = grind (arith, views)

pub Keyed::is_proper-returns-in-Tag-Content : goal.Keyed::is_proper-returns-in-Tag-Content
Keyed::is_proper-returns-in-Tag-Content t c = grind (arith, views)

pub are_proper-loop-kid-init : goal.are_proper-loop-kid-init
are_proper-loop-kid-init t c = grind (arith, common_steps)

pub are_proper-returns-then-not-is_proper : goal.are_proper-returns-then-not-is_proper
are_proper-returns-then-not-is_proper t c = grind (arith, common_steps)

pub are_proper-loop-kid-preserved : goal.are_proper-loop-kid-preserved
are_proper-loop-kid-preserved t c = grind (arith, common_steps)

pub are_proper-returns : goal.are_proper-returns
are_proper-returns t c = grind (arith, common_steps)
