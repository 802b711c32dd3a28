use Rattle.std.proofs.Common.{◌≡◌, map, drop}
use Rattle.jsonml_tree.specs.View.{attr_view}
use Rattle.record_parts.specs.Checks.{each_attr_fits}
use Rattle.record_parts.proofs.fits.each_attr_fits.Given as goal

-- what is left decides
abbrev pub invariant-loop-attr : goal.invariant-loop-attr
invariant-loop-attr l = each_attr_fits (map attr_view l.attrs) ≡ each_attr_fits (map attr_view (drop l.attr-index l.attrs))
