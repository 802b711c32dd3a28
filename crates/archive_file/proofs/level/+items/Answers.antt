use Rattle.std.proofs.Common.{arith}
use Rattle.std.proofs.lemmas.Grind.{common_steps}
use Rattle.archive_file.proofs.level.+items.Goals as goal

pub are_items_shallow-loop-item-init : goal.are_items_shallow-loop-item-init
are_items_shallow-loop-item-init t c = grind (arith, common_steps)

pub are_items_shallow-loop-item-preserved : goal.are_items_shallow-loop-item-preserved
are_items_shallow-loop-item-preserved t c = grind (arith, common_steps)

pub are_items_shallow-returns : goal.are_items_shallow-returns
are_items_shallow-returns t c = grind (arith, common_steps)
