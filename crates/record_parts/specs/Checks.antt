-- Which values have an encoding, as tests.
use Rattle.std.specs.Prelude.{ℕ, zero, suc, pos, negsuc, Bool, true, false, ◌&&◌, ◌^◌, List, [], ◌∷◌, length, Some, None, nat_lt, nat_le}
use Rattle.std.specs.Str.{is_utf8}
use Rattle.jsonml_tree.specs.Data.{PlainScalar, null, boolean, whole, string, PlainAttr, PlainTree, text, element, PlainContent, content, PlainTrees, no_trees, tree, list_of}
use Rattle.jsonml_tree.specs.WellFormed.{is_ascending}
use Rattle.keyed_tree.specs.Data.{PlainKey, scalar, inside, PlainLabel, name_bytes}
use Rattle.version_set.specs.Pairs.{last_of}
use Rattle.archive_tree.specs.Data.{Stamp}
use Rattle.archive_tree.specs.PartsTest.{is_from}
use Rattle.xa_fields.specs.declared.limits.TheConstants.{FIELD}
use Rattle.record_parts.specs.Bounds.{deepest, most}

abbrev pub text_fits : List ℕ → Bool
text_fits s = nat_lt (length s) FIELD && is_utf8 s

abbrev pub scalar_fits : PlainScalar → Bool
scalar_fits null = true
scalar_fits (boolean b) = true
scalar_fits (whole (pos n)) = nat_lt n (2 ^ 64)
scalar_fits (whole (negsuc n)) = nat_lt n (2 ^ 63)
scalar_fits (string s) = text_fits s

abbrev pub each_attr_fits : List PlainAttr → Bool
each_attr_fits [] = true
each_attr_fits (a ∷ xs) = text_fits a.name && scalar_fits a.value && each_attr_fits xs

abbrev pub attrs_fit : List PlainAttr → Bool
attrs_fit xs = nat_lt (length xs) FIELD && each_attr_fits xs && is_ascending xs

-- whether an element of this tag may stand where so many may nest
abbrev pub tag_fits : ℕ → List ℕ → Bool
tag_fits zero t = false
tag_fits (suc depth) t = text_fits t

-- elements nest at most so deep
abbrev mutual
  pub item_fits : ℕ → PlainTree → Bool
  item_fits depth (text s) = text_fits s
  item_fits zero (element t c) = false
  item_fits (suc depth) (element t c) = text_fits t && content_fits depth c

  pub content_fits : ℕ → PlainContent → Bool
  content_fits depth (content xs ts) = attrs_fit xs && nat_lt (length (list_of ts)) FIELD && items_fit depth ts

  pub items_fit : ℕ → PlainTrees → Bool
  items_fit depth no_trees = true
  items_fit depth (tree t ts) = item_fits depth t && items_fit depth ts

abbrev pub value_fits : PlainKey → Bool
value_fits (scalar s) = scalar_fits s
value_fits (inside c) = content_fits deepest c

abbrev pub values_fit : List PlainKey → Bool
values_fit [] = true
values_fit (k ∷ ks) = value_fits k && values_fit ks

abbrev pub label_fits : PlainLabel → Bool
label_fits l = text_fits (name_bytes l.name) && nat_lt (length l.keys) FIELD && values_fit l.keys

-- ---- sets

abbrev pub is_some_set : List (ℕ × ℕ) → Bool
is_some_set [] = false
is_some_set (p ∷ ps) = true

abbrev pub set_fits : List (ℕ × ℕ) → Bool
set_fits s = is_from 1 s && nat_le (last_of s) most

abbrev pub stamp_fits : Stamp → Bool
stamp_fits None = true
stamp_fits (Some s) = is_some_set s && set_fits s
