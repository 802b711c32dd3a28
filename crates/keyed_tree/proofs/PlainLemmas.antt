-- What a well formed proper tree spells is well formed.
use Rattle.std.proofs.Common.{◌≡◌, ℕ, true, ◌&&◌, IsTrue, true≢false, List, [], ◌∷◌, map, refl, sym, subst, ◌∙◌}
use Rattle.std.specs.List.{AllByRecursion}
use Rattle.std.specs.Ordering.{is_lt}
use Rattle.std.specs.declared.cmp.Ordering.TheVariants.{Less}
use Rattle.jsonml_tree.specs.Laws.{then-Equal}
use Rattle.jsonml_tree.specs.Order.{text_cmp}
use Rattle.jsonml_tree.specs.WellFormed.{ascends, is_ascending, is_in_range, are_in_range, are_well_formed, IsWellFormed}
use Rattle.keyed_tree.specs.Data.{PlainName, attr, tag, PlainKey, scalar, inside, PlainLabel, PlainKeyed, inner, leaf, label_of, PlainKids, no_kids, kid, kids_list}
use Rattle.keyed_tree.specs.Order.{label_cmp}
use Rattle.keyed_tree.specs.Kids.{ascend}
use Rattle.keyed_tree.specs.Lists.{Ascends}
use Rattle.keyed_tree.specs.Proper.{is_tag, is_proper, are_proper, IsProper}
use Rattle.keyed_tree.specs.WellFormed.{is_key_well_formed, is_label_well_formed, is_keyed_well_formed, are_kids_well_formed, IsKeyedWellFormed}
use Rattle.keyed_tree.specs.Plain.{attrs_among, item_onto, items_among, plain}
use Rattle.keyed_tree.proofs.Kids.{both, ascend-all}

abbrev attr_label : List ℕ → List PlainKey → PlainLabel
attr_label s ks = record { name = attr s; keys = ks }

abbrev Above : PlainLabel → PlainKids → Type 0
Above l ks = AllByRecursion (λ m. label_cmp l m ≡ Less) (map label_of (kids_list ks))

abbrev InOrder : PlainKids → Type 0
InOrder ks = Ascends label_cmp (map label_of (kids_list ks))

names_rise : (r s : List ℕ) → label_cmp (attr_label r []) (attr_label s []) ≡ Less → IsTrue (is_lt (text_cmp r s))
names_rise r s e = (let d : text_cmp r s ≡ Less = sym (then-Equal (text_cmp r s)) ∙ e in rw d refl)

-- a first kid before kids whose attributes go on from r, and from its own name where it is an attribute
attr_first : (r : List ℕ) (name : PlainName) (keys : List PlainKey) (b : PlainKey) (ks : PlainKids)
    → label_cmp (attr_label r []) (record { name = name; keys = keys }) ≡ Less → IsTrue (is_proper (leaf (record { name = name; keys = keys }) b))
    → IsTrue (ascends r (attrs_among ks)) → ((s : List ℕ) → name ≡ attr s → keys ≡ [] → IsTrue (ascends s (attrs_among ks)))
    → IsTrue (ascends r (attrs_among (kid (leaf (record { name = name; keys = keys }) b) ks)))
attr_first r (attr s) [] (scalar v) ks e p same more = (let d = names_rise r s e in rw d (more s refl refl))
attr_first r (attr s) [] (inside c) ks e p same more = absurd (true≢false (sym p))
attr_first r (attr s) (x ∷ xs) b ks e p same more = absurd (true≢false (sym p))
attr_first r (tag s) keys b ks e p same more = same

as_attr : (l : PlainLabel) (s : List ℕ) → l.name ≡ attr s → l.keys ≡ [] → l ≡ attr_label s []
as_attr l s e f = λ i. record { name = e i; keys = f i }

-- the attributes of kids above an attribute's label go on from that attribute's name
attrs_above : (r : List ℕ) (ks : PlainKids) → Above (attr_label r []) ks → InOrder ks → IsTrue (are_proper ks) → IsTrue (ascends r (attrs_among ks))
attrs_above r no_kids a o p = refl
attrs_above r (kid (inner l js) ks) a o p = attrs_above r ks a.1 o.1 (both (is_proper (inner l js)) (are_proper ks) p).1
attrs_above r (kid (leaf l b) ks) a o p =
    let two = both (is_proper (leaf l b)) (are_proper ks) p in
    attr_first r l.name l.keys b ks a.0 two.0 (attrs_above r ks a.1 o.1 two.1)
    (λ s e f. attrs_above s ks (subst (λ m. Above m ks) (as_attr l s e f) o.0) o.1 two.1)

attr_alone : (name : PlainName) (keys : List PlainKey) (b : PlainKey) (ks : PlainKids)
    → IsTrue (is_proper (leaf (record { name = name; keys = keys }) b))
    → IsTrue (is_ascending (attrs_among ks)) → ((s : List ℕ) → name ≡ attr s → keys ≡ [] → IsTrue (ascends s (attrs_among ks)))
    → IsTrue (is_ascending (attrs_among (kid (leaf (record { name = name; keys = keys }) b) ks)))
attr_alone (attr s) [] (scalar v) ks p same more = more s refl refl
attr_alone (attr s) [] (inside c) ks p same more = absurd (true≢false (sym p))
attr_alone (attr s) (x ∷ xs) b ks p same more = absurd (true≢false (sym p))
attr_alone (tag s) keys b ks p same more = same

-- attributes that come from proper kids in order ascend by name
pub attrs_ascend : (ks : PlainKids) → InOrder ks → IsTrue (are_proper ks) → IsTrue (is_ascending (attrs_among ks))
attrs_ascend no_kids o p = refl
attrs_ascend (kid (inner l js) ks) o p = attrs_ascend ks o.1 (both (is_proper (inner l js)) (are_proper ks) p).1
attrs_ascend (kid (leaf l b) ks) o p =
    let two = both (is_proper (leaf l b)) (are_proper ks) p in
    attr_alone l.name l.keys b ks two.0 (attrs_ascend ks o.1 two.1)
    (λ s e f. attrs_above s ks (subst (λ m. Above m ks) (as_attr l s e f) o.0) o.1 two.1)

attr_ranged : (name : PlainName) (keys : List PlainKey) (b : PlainKey) (ks : PlainKids) → IsTrue (is_key_well_formed b) → IsTrue (are_in_range (attrs_among ks))
    → IsTrue (are_in_range (attrs_among (kid (leaf (record { name = name; keys = keys }) b) ks)))
attr_ranged (attr s) keys (scalar v) ks h same = (let d : is_in_range v ≡ true = h in rw d same)
attr_ranged (attr s) keys (inside c) ks h same = same
attr_ranged (tag s) keys b ks h same = same

attrs_ranged : (ks : PlainKids) → IsTrue (are_kids_well_formed ks) → IsTrue (are_in_range (attrs_among ks))
attrs_ranged no_kids h = refl
attrs_ranged (kid (inner l js) ks) h = attrs_ranged ks (both (is_keyed_well_formed (inner l js)) (are_kids_well_formed ks) h).1
attrs_ranged (kid (leaf l b) ks) h =
    let two = both (is_keyed_well_formed (leaf l b)) (are_kids_well_formed ks) h in
    attr_ranged l.name l.keys b ks (both (is_label_well_formed l) (is_key_well_formed b) two.0).1 (attrs_ranged ks two.1)

item_well : (name : PlainName) (k : PlainKeyed) (ks : PlainKids) → IsWellFormed (plain k) → IsTrue (are_well_formed (items_among ks)) → IsTrue (are_well_formed (item_onto name (plain k) (items_among ks)))
item_well (attr s) k ks h g = g
item_well (tag s) k ks h g = rw h g

leaf_well : (name : PlainName) (keys : List PlainKey) (b : PlainKey) → IsTrue (is_key_well_formed b) → IsWellFormed (plain (leaf (record { name = name; keys = keys }) b))
leaf_well name keys (scalar v) h = refl
leaf_well name keys (inside c) h = h

mutual
  pub plain_well_formed : (k : PlainKeyed) → IsProper k → IsKeyedWellFormed k → IsWellFormed (plain k)
  plain_well_formed (inner l ks) p h =
      let proper = both (is_tag l.name && ascend ks) (are_proper ks) p in
      let well = (both (is_label_well_formed l) (are_kids_well_formed ks) h).1 in
      let order = attrs_ascend ks (ascend-all ks (both (is_tag l.name) (ascend ks) proper.0).1) proper.1 in
      let range = attrs_ranged ks well in
      rw order (rw range (items_well_formed ks proper.1 well))
  plain_well_formed (leaf l b) p h = leaf_well l.name l.keys b (both (is_label_well_formed l) (is_key_well_formed b) h).1

  items_well_formed : (ks : PlainKids) → IsTrue (are_proper ks) → IsTrue (are_kids_well_formed ks) → IsTrue (are_well_formed (items_among ks))
  items_well_formed no_kids p h = refl
  items_well_formed (kid k ks) p h =
      let proper = both (is_proper k) (are_proper ks) p in
      let well = both (is_keyed_well_formed k) (are_kids_well_formed ks) h in
      item_well (label_of k).name k ks (plain_well_formed k proper.0 well.0) (items_well_formed ks proper.1 well.1)
