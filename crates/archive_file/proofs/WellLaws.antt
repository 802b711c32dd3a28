-- What has an encoding is well formed.
use Rattle.std.proofs.Common.{ℕ, ◌^◌, ◌<◌, pos, negsuc, true, ◌&&◌, IsTrue, List, [], ◌∷◌, ◌++◌, refl, arith}
use Rattle.std.specs.List.{AllByRecursion}
use Rattle.std.proofs.lemmas.Bool.Decides.{nat_tests}
use Rattle.jsonml_tree.specs.Data.{PlainScalar, null, boolean, whole, string, PlainAttr, PlainTree, text, element, PlainContent, content, PlainTrees, no_trees, tree}
use Rattle.jsonml_tree.specs.WellFormed.{is_in_range, is_ascending, are_in_range, is_well_formed, is_content_well_formed, are_well_formed}
use Rattle.keyed_tree.specs.Data.{PlainKey, scalar, inside, PlainLabel}
use Rattle.keyed_tree.specs.WellFormed.{is_key_well_formed, are_keys_well_formed, IsKeyWellFormed, IsLabelWellFormed}
use Rattle.archive_tree.specs.Data.{PlainNode, nodes_from}
use Rattle.record_parts.specs.Bounds.{IsScalar, IsAttr, IsItem, IsInside, AreItems, IsValue, IsLabel}
use Rattle.keyed_tree.proofs.Kids.{both}
use Rattle.archive_file.specs.Laid.{is_nested, are_nested}
use Rattle.archive_file.proofs.GoesLaws.{both-hold}

range-pos : (n : ℕ) → n < 2 ^ 64 → IsTrue (is_in_range (whole (pos n)))
range-pos n h = grind (arith, nat_tests)

range-neg : (n : ℕ) → n < 2 ^ 63 → IsTrue (is_in_range (whole (negsuc n)))
range-neg n h = grind (arith, nat_tests)

in-range : (v : PlainScalar) → IsScalar v → IsTrue (is_in_range v)
in-range null h = refl
in-range (boolean b) h = refl
in-range (whole (pos n)) h = range-pos n h
in-range (whole (negsuc n)) h = range-neg n h
in-range (string s) h = refl

all-in-range : (xs : List PlainAttr) → AllByRecursion IsAttr xs → IsTrue (are_in_range xs)
all-in-range [] h = refl
all-in-range (a ∷ xs) h = both-hold (is_in_range a.value) (are_in_range xs) (in-range a.value h.0.value) (all-in-range xs h.1)

mutual
  item-well : (t : PlainTree) → IsItem t → IsTrue (is_well_formed t)
  item-well (text s) h = refl
  item-well (element t c) h = content-well c h.1

  content-well : (c : PlainContent) → IsInside c → IsTrue (is_content_well_formed c)
  content-well (content xs ts) h =
      both-hold (is_ascending xs && are_in_range xs) (are_well_formed ts) (both-hold (is_ascending xs) (are_in_range xs) h.0.ascending (all-in-range xs h.0.each)) (items-well ts h.2)

  items-well : (ts : PlainTrees) → AreItems ts → IsTrue (are_well_formed ts)
  items-well no_trees h = refl
  items-well (tree t ts) h = both-hold (is_well_formed t) (are_well_formed ts) (item-well t h.0) (items-well ts h.1)

pub value-well : (v : PlainKey) → IsValue v → IsKeyWellFormed v
value-well (scalar s) h = in-range s h
value-well (inside c) h = content-well c h.inside

values-well : (vs : List PlainKey) → AllByRecursion IsValue vs → IsTrue (are_keys_well_formed vs)
values-well [] h = refl
values-well (v ∷ vs) h = both-hold (is_key_well_formed v) (are_keys_well_formed vs) (value-well v h.0) (values-well vs h.1)

pub label-well : (l : PlainLabel) → IsLabel l → IsLabelWellFormed l
label-well l h = values-well l.keys h.keys

-- one more node that nests no deeper
pub nested-more : (d : ℕ) (ks : List PlainNode) (k : PlainNode) → IsTrue (are_nested d (nodes_from ks)) → IsTrue (is_nested d k) → IsTrue (are_nested d (nodes_from (ks ++ k ∷ [])))
nested-more d [] k h g = both-hold (is_nested d k) true g refl
nested-more d (j ∷ ks) k h g =
    let two = both (is_nested d j) (are_nested d (nodes_from ks)) h in
    both-hold (is_nested d j) (are_nested d (nodes_from (ks ++ k ∷ []))) two.0 (nested-more d ks k two.1 g)
