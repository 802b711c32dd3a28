use Rattle.std.proofs.Common.{arith}
use Rattle.std.proofs.lemmas.Grind.{common_steps}
use Rattle.record_parts.proofs.fits.+fits.Goals as goal

pub items_fit-loop-item-preserved : goal.items_fit-loop-item-preserved
items_fit-loop-item-preserved t c = grind (arith, common_steps)

pub items_fit-returns-then-not-item_fits : goal.items_fit-returns-then-not-item_fits
items_fit-returns-then-not-item_fits t c = grind (arith, common_steps)

pub items_fit-returns : goal.items_fit-returns
items_fit-returns t c = grind (arith, common_steps)
