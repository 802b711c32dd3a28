-- A version that is keyed by closed rules, and whose texts are UTF-8, has labels and bodies within the bounds of the format.
use Rattle.std.proofs.Common.{◌≡◌, ℕ, suc, ◌≤◌, ◌<◌, ◌^◌, pos, negsuc, Bool, true, false, cond, not, ◌&&◌, IsTrue, true≢false, List, [], ◌∷◌, Option, Some, None, refl, sym, subst, inl, inr, arith}
use Rattle.std.specs.Cmp.Lexicographic.{pointwise}
use Rattle.std.specs.List.{AllByRecursion, find}
use Rattle.std.specs.Option.{option_map}
use Rattle.std.specs.Ordering.{is_eq}
use Rattle.std.specs.Prelude.{⊤}
use Rattle.std.specs.Str.{IsUtf8, bytes_eq}
use Rattle.std.proofs.lemmas.Bool.Decides.{nat_tests}
use Rattle.jsonml_tree.specs.Data.{PlainScalar, null, boolean, whole, string, PlainAttr, PlainTree, text, element, PlainContent, content, PlainTrees, no_trees, tree, tree_depth, content_depth, trees_depth}
use Rattle.jsonml_tree.specs.WellFormed.{is_in_range, is_ascending, are_in_range, is_well_formed, is_content_well_formed, are_well_formed}
use Rattle.jsonml_tree.specs.declared.limits.TheConstants.{GREATEST_DEPTH}
use Rattle.jsonml_text.specs.Texts.{IsScalarText, AreAttrTexts, AreTexts, AreContentTexts, AreItemTexts}
use Rattle.keyed_tree.specs.Data.{PlainName, attr, tag, PlainKey, scalar, inside, PlainLabel, PlainKeyed, inner, leaf, PlainKids, no_kids, kid, kids_list, label_of, name_bytes}
use Rattle.keyed_tree.specs.Kids.{ascend, kid_at}
use Rattle.keyed_tree.specs.Laws.{key_cmp-is_eq}
use Rattle.keyed_tree.specs.Lists.{Has}
use Rattle.keyed_tree.specs.Order.{key_cmp}
use Rattle.keyed_tree.specs.Plain.{content_of, attr_before, attrs_among, item_onto, items_among, plain}
use Rattle.keyed_tree.specs.Proper.{is_tag, IsElement, has_no_keys, is_scalar, is_content, is_leaf_proper, is_proper, are_proper, IsProper}
use Rattle.keyed_tree.specs.WellFormed.{is_key_well_formed, is_label_well_formed, is_keyed_well_formed, are_kids_well_formed, IsKeyedWellFormed}
use Rattle.keyed_tree.proofs.Kids.{both, has_found}
use Rattle.key_spec.specs.Closed.{IsClosed}
use Rattle.key_spec.specs.Data.{PlainPath, PlainRule}
use Rattle.key_spec.specs.Rules.{rule_of, is_frontier, below}
use Rattle.archive_tree.specs.Stands.{has_body}
use Rattle.record_parts.specs.Shapes.{IsShapedScalar, IsShapedAttr, IsShapedItem, IsShapedInside, AreShapedItems, IsShapedValue, IsShapedLabel}
use Rattle.archive_file.specs.KeyedBy.{IsKeyedBy}
use Rattle.archive_file.specs.NodeFits.{attr_label, bare_label, on_some, ends_in}
use Rattle.archive_file.proofs.ClosedWays.{closed-lead}
use Rattle.archive_file.proofs.Fits.{leads_here, leads, has_keys, is_attr_leaf, fits, each_fits}
use Rattle.archive_file.proofs.KeyedLaws.{keyed-fit, keyed-is_element, keyed-is_proper, keyed-is_well_formed, keyed-shallow}

-- each label and each body is within the bounds
abbrev mutual
  pub IsShapedKeyed : PlainKeyed → Type 0
  IsShapedKeyed (inner l ks) = IsShapedLabel l × AreShapedKids ks
  IsShapedKeyed (leaf l b) = IsShapedLabel l × IsShapedValue b

  pub AreShapedKids : PlainKids → Type 0
  AreShapedKids no_kids = ⊤
  AreShapedKids (kid k ks) = IsShapedKeyed k × AreShapedKids ks

-- ---- what is well formed and has UTF-8 texts

pos-below : (n : ℕ) → IsTrue (is_in_range (whole (pos n))) → n < 2 ^ 64
pos-below n h = grind (arith, nat_tests)

neg-below : (n : ℕ) → IsTrue (is_in_range (whole (negsuc n))) → n < 2 ^ 63
neg-below n h = grind (arith, nat_tests)

scalar-shaped : (v : PlainScalar) → IsTrue (is_in_range v) → IsScalarText v → IsShapedScalar v
scalar-shaped null w t = tt
scalar-shaped (boolean b) w t = tt
scalar-shaped (whole (pos n)) w t = pos-below n w
scalar-shaped (whole (negsuc n)) w t = neg-below n w
scalar-shaped (string s) w t = t

attrs-shaped : (xs : List PlainAttr) → IsTrue (are_in_range xs) → AreAttrTexts xs → AllByRecursion IsShapedAttr xs
attrs-shaped [] w t = tt
attrs-shaped (a ∷ xs) w t = (let two = both (is_in_range a.value) (are_in_range xs) w in ((t.0, scalar-shaped a.value two.0 t.1), attrs-shaped xs two.1 t.2))

mutual
  item-shaped : (i : PlainTree) → IsTrue (is_well_formed i) → AreTexts i → IsShapedItem i
  item-shaped (text s) w t = t
  item-shaped (element s c) w t = (t.0, content-shaped c w t.1)

  content-shaped : (c : PlainContent) → IsTrue (is_content_well_formed c) → AreContentTexts c → IsShapedInside c
  content-shaped (content xs ts) w t =
      let two = both (is_ascending xs && are_in_range xs) (are_well_formed ts) w in
      let attrs = both (is_ascending xs) (are_in_range xs) two.0 in
      (attrs-shaped xs attrs.1 t.0, attrs.0, items-shaped ts two.1 t.1)

  items-shaped : (ts : PlainTrees) → IsTrue (are_well_formed ts) → AreItemTexts ts → AreShapedItems ts
  items-shaped no_trees w t = tt
  items-shaped (tree i ts) w t = (let two = both (is_well_formed i) (are_well_formed ts) w in (item-shaped i two.0 t.0, items-shaped ts two.1 t.1))

-- ---- names and bodies, of what the tree spells

abbrev mutual
  IsFilled : PlainKeyed → Type 0
  IsFilled (inner l ks) = IsUtf8 (name_bytes l.name) × AreFilled ks
  IsFilled (leaf l b) = IsUtf8 (name_bytes l.name) × IsShapedValue b

  AreFilled : PlainKids → Type 0
  AreFilled no_kids = ⊤
  AreFilled (kid k ks) = IsFilled k × AreFilled ks

-- what is said of the attributes and items that kids spell
record Spell (xs : List PlainAttr) (ts : PlainTrees) : Type 0 where
  attrs : AreAttrTexts xs
  items : AreItemTexts ts
  depth : trees_depth ts ≤ GREATEST_DEPTH

leaf-filled : (n : PlainName) (keys : List PlainKey) (b : PlainKey) → IsTrue (is_tag n) → IsTrue (is_leaf_proper n keys b) → IsTrue (is_key_well_formed b) → AreContentTexts (content_of b) → suc (content_depth (content_of b)) ≤ GREATEST_DEPTH → IsShapedValue b
leaf-filled (attr s) keys b e p w t d = absurd (true≢false (sym e))
leaf-filled (tag s) keys (scalar v) e p w t d = absurd (true≢false (sym p))
leaf-filled (tag s) keys (inside c) e p w t d = (content-shaped c w t, omega arith)

leaf-kid : (n : PlainName) (keys : List PlainKey) (b : PlainKey) (xs : List PlainAttr) (ts : PlainTrees) → IsTrue (is_leaf_proper n keys b) → IsTrue (is_key_well_formed b)
    → Spell (attr_before n b xs) (item_onto n (element (name_bytes n) (content_of b)) ts) → (IsUtf8 (name_bytes n) × IsShapedValue b) × Spell xs ts
leaf-kid (attr s) keys (scalar v) xs ts p w h = ((h.attrs.0, scalar-shaped v w h.attrs.1), record { attrs = h.attrs.2; items = h.items; depth = h.depth })
leaf-kid (attr s) keys (inside c) xs ts p w h = absurd (true≢false (sym (both (has_no_keys keys) false p).1))
leaf-kid (tag s) keys (scalar v) xs ts p w h = absurd (true≢false (sym p))
leaf-kid (tag s) keys (inside c) xs ts p w h =
    let d = h.depth in
    ((h.items.0.0, (content-shaped c w h.items.0.1, omega arith)), record { attrs = h.attrs; items = h.items.1; depth = omega arith })

inner-kid : (n : PlainName) (t : PlainTree) (xs : List PlainAttr) (ts : PlainTrees) → IsTrue (is_tag n) → Spell xs (item_onto n t ts) → (AreTexts t × (tree_depth t ≤ GREATEST_DEPTH)) × Spell xs ts
inner-kid (attr s) t xs ts e h = absurd (true≢false (sym e))
inner-kid (tag s) t xs ts e h = (let d = h.depth in ((h.items.0, omega arith), record { attrs = h.attrs; items = h.items.1; depth = omega arith }))

mutual
  element-filled : (k : PlainKeyed) → IsElement k → IsProper k → IsKeyedWellFormed k → AreTexts (plain k) → tree_depth (plain k) ≤ GREATEST_DEPTH → IsFilled k
  element-filled (leaf l b) e p w t d = (let two = both (is_label_well_formed l) (is_key_well_formed b) w in (t.0, leaf-filled l.name l.keys b e p two.1 t.1 d))
  element-filled (inner l ks) e p w t d =
      let proper = both (is_tag l.name && ascend ks) (are_proper ks) p in
      let well = both (is_label_well_formed l) (are_kids_well_formed ks) w in
      (t.0, kids-filled ks proper.1 well.1 (record { attrs = t.1.0; items = t.1.1; depth = omega arith }))

  kids-filled : (ks : PlainKids) → IsTrue (are_proper ks) → IsTrue (are_kids_well_formed ks) → Spell (attrs_among ks) (items_among ks) → AreFilled ks
  kids-filled no_kids p w h = tt
  kids-filled (kid (leaf l b) ks) p w h =
      let proper = both (is_proper (leaf l b)) (are_proper ks) p in
      let well = both (is_keyed_well_formed (leaf l b)) (are_kids_well_formed ks) w in
      let own = both (is_label_well_formed l) (is_key_well_formed b) well.0 in
      let two = leaf-kid l.name l.keys b (attrs_among ks) (items_among ks) proper.0 own.1 h in
      (two.0, kids-filled ks proper.1 well.1 two.1)
  kids-filled (kid (inner l js) ks) p w h =
      let proper = both (is_proper (inner l js)) (are_proper ks) p in
      let well = both (is_keyed_well_formed (inner l js)) (are_kids_well_formed ks) w in
      let named = (both (is_tag l.name) (ascend js) (both (is_tag l.name && ascend js) (are_proper js) proper.0).0).0 in
      let two = inner-kid l.name (plain (inner l js)) (attrs_among ks) (items_among ks) named h in
      (element-filled (inner l js) named proper.0 well.0 two.0.0 two.0.1, kids-filled ks proper.1 well.1 two.1)

-- ---- key values, which are bodies or parts of them

filled-has : (ks : PlainKids) (c : PlainKeyed) → AreFilled ks → Has c (kids_list ks) → IsFilled c
filled-has no_kids c h m = absurd m
filled-has (kid k ks) c h m = elim m [ inl e ↦ subst IsFilled e h.0 | inr n ↦ filled-has ks c h.1 n ]

-- the kid that was found, and passes the test
on-kid : (p : PlainKeyed → Bool) (l : PlainLabel) (ks : PlainKids) → AreFilled ks → IsTrue (on_some p (kid_at l (kids_list ks))) → (c : PlainKeyed) × (IsFilled c × IsTrue (p c))
on-kid p l ks h g =
    elim (kid_at l (kids_list ks)) as (λ o. kid_at l (kids_list ks) ≡ o → IsTrue (on_some p o) → (c : PlainKeyed) × (IsFilled c × IsTrue (p c))) [
      | None ↦ λ e t. absurd (true≢false (sym t))
      | Some c ↦ λ e t. (c, (filled-has ks c h (has_found l c (kids_list ks) e).0, t))
    ] refl g

attr-shaped : (name : List ℕ) (v : PlainKey) (xs : List PlainAttr) → AllByRecursion IsShapedAttr xs
    → IsTrue (on_some (λ w. is_eq (key_cmp w v)) (option_map (λ s. scalar s) (option_map (λ (a : PlainAttr). a.value) (find (λ a. bytes_eq a.name name) xs)))) → IsShapedValue v
attr-shaped name v [] h g = absurd (true≢false (sym g))
attr-shaped name v (a ∷ xs) h g =
    elim (bytes_eq a.name name) as (λ b. IsTrue (on_some (λ w. is_eq (key_cmp w v)) (option_map (λ s. scalar s) (option_map (λ (a : PlainAttr). a.value) (cond b (Some a) (find (λ a. bytes_eq a.name name) xs))))) → IsShapedValue v) [
      | true ↦ λ t. subst IsShapedValue ((key_cmp-is_eq (scalar a.value) v).0 t) h.0.1
      | false ↦ λ t. attr-shaped name v xs h.1 t
    ] g

end-shaped : (at : Option (List ℕ)) (v b : PlainKey) → IsShapedValue b → IsTrue (ends_in at v b) → IsShapedValue v
end-shaped at v (scalar s) h g = absurd (true≢false (sym g))
end-shaped None v (inside c) h g = subst IsShapedValue ((key_cmp-is_eq (inside c) v).0 g) h
end-shaped (Some name) v (inside (content xs ts)) h g = attr-shaped name v xs h.0.0 g

body-shaped : (v : PlainKey) (c : PlainKeyed) → IsFilled c → IsTrue (has_body v c) → IsShapedValue v
body-shaped v (inner l ks) h g = absurd (true≢false (sym g))
body-shaped v (leaf l b) h g = subst IsShapedValue ((key_cmp-is_eq b v).0 g) h.1

here-shaped : (at : Option (List ℕ)) (v : PlainKey) (k : PlainKeyed) → IsFilled k → IsTrue (leads_here at v k) → IsShapedValue v
here-shaped at v (leaf l b) h g = end-shaped at v b h.1 g
here-shaped None v (inner l ks) h g = absurd (true≢false (sym g))
here-shaped (Some name) v (inner l ks) h g = (let c = on-kid (has_body v) (attr_label name) ks h.1 g in body-shaped v c.0 c.1.0 c.1.1)

led-shaped : (tags : List (List ℕ)) (at : Option (List ℕ)) (v : PlainKey) (k : PlainKeyed) → IsFilled k → IsTrue (leads tags at v k) → IsShapedValue v
led-shaped [] at v k h g = here-shaped at v k h g
led-shaped (t ∷ tags) at v (leaf l b) h g = absurd (true≢false (sym g))
led-shaped (t ∷ tags) at v (inner l ks) h g = (let c = on-kid (leads tags at v) (bare_label t) ks h.1 g in led-shaped tags at v c.0 c.1.0 c.1.1)

keys-shaped : (ps : List PlainPath) (keys : List PlainKey) (k : PlainKeyed) → IsFilled k → IsTrue (pointwise (λ (p : PlainPath) v. leads p.tags p.attr v k) ps keys) → AllByRecursion IsShapedValue keys
keys-shaped ps [] k h g = tt
keys-shaped [] (v ∷ keys) k h g = absurd (true≢false (sym g))
keys-shaped (p ∷ ps) (v ∷ keys) k h g =
    let two = both (leads p.tags p.attr v k) (pointwise (λ (p : PlainPath) v. leads p.tags p.attr v k) ps keys) g in
    (led-shaped p.tags p.attr v k h two.0, keys-shaped ps keys k h two.1)

rule-shaped : (r : Option PlainRule) (keys : List PlainKey) (k : PlainKeyed) → IsFilled k → IsTrue (has_keys r keys k) → AllByRecursion IsShapedValue keys
rule-shaped None keys k h g = absurd (true≢false (sym g))
rule-shaped (Some r) keys k h g = keys-shaped r.paths keys k h g

no-keys : (keys : List PlainKey) → IsTrue (has_no_keys keys) → AllByRecursion IsShapedValue keys
no-keys [] h = tt
no-keys (v ∷ keys) h = absurd (true≢false (sym h))

attr-leaf-shaped : (k : PlainKeyed) → IsFilled k → IsTrue (is_attr_leaf k) → IsShapedKeyed k
attr-leaf-shaped (inner l ks) h g = absurd (true≢false (sym g))
attr-leaf-shaped (leaf l b) h g = (record { name = h.0; keys = no-keys l.keys (both (has_no_keys l.keys) (is_scalar b) g).0 }, h.1)

kid-shaped : (b f : Bool) (k : PlainKeyed) → (IsTrue f → IsShapedKeyed k) → IsFilled k → IsTrue (cond b f (is_attr_leaf k)) → IsShapedKeyed k
kid-shaped true f k own h g = own g
kid-shaped false f k own h g = attr-leaf-shaped k h g

mutual
  fit-shaped : (rules : List PlainRule) (context : List (List ℕ)) (k : PlainKeyed) → IsFilled k → IsTrue (fits rules context k) → IsShapedKeyed k
  fit-shaped rules context (leaf l b) h g =
      let path = below context (name_bytes l.name) in
      let rule = rule_of rules context (name_bytes l.name) in
      let one = both (is_tag l.name) (has_keys rule l.keys (leaf l b) && (is_frontier rules path && is_content b)) g in
      let two = both (has_keys rule l.keys (leaf l b)) (is_frontier rules path && is_content b) one.1 in
      (record { name = h.0; keys = rule-shaped rule l.keys (leaf l b) h two.0 }, h.1)
  fit-shaped rules context (inner l ks) h g =
      let path = below context (name_bytes l.name) in
      let rule = rule_of rules context (name_bytes l.name) in
      let one = both (is_tag l.name) (has_keys rule l.keys (inner l ks) && (not (is_frontier rules path) && (ascend ks && each_fits rules path ks))) g in
      let two = both (has_keys rule l.keys (inner l ks)) (not (is_frontier rules path) && (ascend ks && each_fits rules path ks)) one.1 in
      let three = both (not (is_frontier rules path)) (ascend ks && each_fits rules path ks) two.1 in
      (record { name = h.0; keys = rule-shaped rule l.keys (inner l ks) h two.0 }, each-shaped rules path ks h.1 (both (ascend ks) (each_fits rules path ks) three.1).1)

  each-shaped : (rules : List PlainRule) (path : List (List ℕ)) (ks : PlainKids) → AreFilled ks → IsTrue (each_fits rules path ks) → AreShapedKids ks
  each-shaped rules path no_kids h g = tt
  each-shaped rules path (kid k ks) h g =
      let own = is_tag (label_of k).name in
      let two = both (cond own (fits rules path k) (is_attr_leaf k)) (each_fits rules path ks) g in
      (kid-shaped own (fits rules path k) k (λ t. fit-shaped rules path k h.0 t) h.0 two.0, each-shaped rules path ks h.1 two.1)

pub keyed-shaped : (rules : List PlainRule) → IsClosed rules → (k : PlainKeyed) → IsKeyedBy rules k → AreTexts (plain k) → IsShapedKeyed k
keyed-shaped rules closed k h t =
    let fit = (keyed-fit rules (closed-lead rules closed) k h).fit in
    fit-shaped rules [] k (element-filled k (keyed-is_element rules k h) (keyed-is_proper rules k h) (keyed-is_well_formed rules k h) t (keyed-shallow rules k h)) fit

pub versions-shaped : (rules : List PlainRule) → IsClosed rules → (vs : List PlainKeyed) → AllByRecursion (IsKeyedBy rules) vs → AllByRecursion (λ v. AreTexts (plain v)) vs → AllByRecursion IsShapedKeyed vs
versions-shaped rules closed [] h t = tt
versions-shaped rules closed (v ∷ vs) h t = (keyed-shaped rules closed v h.0 t.0, versions-shaped rules closed vs h.1 t.1)

-- ---- what is within the bounds has UTF-8 texts

scalar-texts : (v : PlainScalar) → IsShapedScalar v → IsScalarText v
scalar-texts null h = tt
scalar-texts (boolean b) h = tt
scalar-texts (whole n) h = tt
scalar-texts (string s) h = h

attrs-texts : (xs : List PlainAttr) → AllByRecursion IsShapedAttr xs → AreAttrTexts xs
attrs-texts [] h = tt
attrs-texts (a ∷ xs) h = (h.0.0, scalar-texts a.value h.0.1, attrs-texts xs h.1)

mutual
  item-texts : (i : PlainTree) → IsShapedItem i → AreTexts i
  item-texts (text s) h = h
  item-texts (element s c) h = (h.0, content-texts c h.1)

  content-texts : (c : PlainContent) → IsShapedInside c → AreContentTexts c
  content-texts (content xs ts) h = (attrs-texts xs h.0, items-texts ts h.2)

  items-texts : (ts : PlainTrees) → AreShapedItems ts → AreItemTexts ts
  items-texts no_trees h = tt
  items-texts (tree i ts) h = (item-texts i h.0, items-texts ts h.1)

body-texts : (b : PlainKey) → IsShapedValue b → AreContentTexts (content_of b)
body-texts (scalar v) h = (tt, tt)
body-texts (inside c) h = content-texts c h.0

before-texts : (n : PlainName) (b : PlainKey) (xs : List PlainAttr) → IsUtf8 (name_bytes n) → IsShapedValue b → AreAttrTexts xs → AreAttrTexts (attr_before n b xs)
before-texts (attr s) (scalar v) xs h g t = (h, scalar-texts v g, t)
before-texts (attr s) (inside c) xs h g t = t
before-texts (tag s) b xs h g t = t

onto-texts : (n : PlainName) (i : PlainTree) (ts : PlainTrees) → AreTexts i → AreItemTexts ts → AreItemTexts (item_onto n i ts)
onto-texts (attr s) i ts h t = t
onto-texts (tag s) i ts h t = (h, t)

among-texts : (ks : PlainKids) → AreShapedKids ks → AreAttrTexts (attrs_among ks)
among-texts no_kids h = tt
among-texts (kid (inner l js) ks) h = among-texts ks h.1
among-texts (kid (leaf l b) ks) h = before-texts l.name b (attrs_among ks) h.0.0.name h.0.1 (among-texts ks h.1)

mutual
  pub shaped-texts : (k : PlainKeyed) → IsShapedKeyed k → AreTexts (plain k)
  shaped-texts (inner l ks) h = (h.0.name, (among-texts ks h.1, kids-texts ks h.1))
  shaped-texts (leaf l b) h = (h.0.name, body-texts b h.1)

  kids-texts : (ks : PlainKids) → AreShapedKids ks → AreItemTexts (items_among ks)
  kids-texts no_kids h = tt
  kids-texts (kid k ks) h = onto-texts (label_of k).name (plain k) (items_among ks) (shaped-texts k h.0) (kids-texts ks h.1)
