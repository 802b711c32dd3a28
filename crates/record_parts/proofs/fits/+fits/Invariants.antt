use Rattle.std.proofs.Common.{◌≡◌, drop}
use Rattle.jsonml_tree.specs.View.{items_view}
use Rattle.record_parts.specs.Checks.{items_fit}
use Rattle.record_parts.proofs.fits.+fits.Given as goal

-- what is left decides
abbrev pub invariant-items_fit-loop-item : goal.invariant-items_fit-loop-item
invariant-items_fit-loop-item l = items_fit l.depth (items_view l.items) ≡ items_fit l.depth (items_view (drop l.item-index l.items))
