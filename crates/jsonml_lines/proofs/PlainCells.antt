-- Cells that are well formed each.
use Rattle.std.proofs.Common.{IsTrue, List, [], ◌∷◌, refl}
use Rattle.std.specs.List.{AllByRecursion}
use Rattle.std.proofs.lemmas.Bool.{and_from}
use Rattle.keyed_tree.specs.Data.{PlainKey}
use Rattle.keyed_tree.specs.WellFormed.{is_key_well_formed, are_keys_well_formed}
use Rattle.jsonml_lines.specs.RoundTrip.{IsCell}

pub well : (ks : List PlainKey) → AllByRecursion IsCell ks → IsTrue (are_keys_well_formed ks)
well [] h = refl
well (k ∷ ks) h = and_from (is_key_well_formed k) (are_keys_well_formed ks) h.0.well_formed (well ks h.1)
