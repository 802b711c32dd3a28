-- Which keyed trees are well formed: each scalar and content in them is.
use Rattle.std.specs.Prelude.{Bool, true, ◌&&◌, List, [], ◌∷◌, IsTrue}
use Rattle.jsonml_tree.specs.WellFormed.{is_in_range, is_content_well_formed}
use Rattle.keyed_tree.specs.Data.{PlainKey, scalar, inside, PlainLabel, PlainKeyed, inner, leaf, PlainKids, no_kids, kid}

abbrev pub is_key_well_formed : PlainKey → Bool
is_key_well_formed (scalar s) = is_in_range s
is_key_well_formed (inside c) = is_content_well_formed c

abbrev pub are_keys_well_formed : List PlainKey → Bool
are_keys_well_formed [] = true
are_keys_well_formed (k ∷ ks) = is_key_well_formed k && are_keys_well_formed ks

abbrev pub is_label_well_formed : PlainLabel → Bool
is_label_well_formed l = are_keys_well_formed l.keys

abbrev mutual
  pub is_keyed_well_formed : PlainKeyed → Bool
  is_keyed_well_formed (inner l ks) = is_label_well_formed l && are_kids_well_formed ks
  is_keyed_well_formed (leaf l b) = is_label_well_formed l && is_key_well_formed b

  pub are_kids_well_formed : PlainKids → Bool
  are_kids_well_formed no_kids = true
  are_kids_well_formed (kid k ks) = is_keyed_well_formed k && are_kids_well_formed ks

abbrev pub IsKeyWellFormed : PlainKey → Type 0
IsKeyWellFormed k = IsTrue (is_key_well_formed k)

abbrev pub IsLabelWellFormed : PlainLabel → Type 0
IsLabelWellFormed l = IsTrue (is_label_well_formed l)

abbrev pub IsKeyedWellFormed : PlainKeyed → Type 0
IsKeyedWellFormed k = IsTrue (is_keyed_well_formed k)
