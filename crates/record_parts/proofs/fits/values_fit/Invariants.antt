use Rattle.std.proofs.Common.{◌≡◌, map, drop}
use Rattle.keyed_tree.specs.View.{key_view}
use Rattle.record_parts.specs.Checks.{values_fit}
use Rattle.record_parts.proofs.fits.values_fit.Given as goal

-- what is left decides
abbrev pub invariant-loop-value : goal.invariant-loop-value
invariant-loop-value l = values_fit (map key_view l.values) ≡ values_fit (map key_view (drop l.value-index l.values))
