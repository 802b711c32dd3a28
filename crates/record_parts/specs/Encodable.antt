-- What passes the tests has an encoding, and what has one passes.
use Rattle.std.proofs.Common.{◌≡◌, ◌↔◌, ℕ, zero, suc, ◌≤◌, ◌^◌, ◌&&◌, pos, negsuc, Bool, true, false, ltb, IsTrue, List, [], ◌∷◌, length, refl, sym, ◌∙◌, arith}
use Rattle.std.specs.List.{AllByRecursion}
use Rattle.std.specs.Str.{IsUtf8, is_utf8}
use Rattle.std.proofs.lemmas.Bool.{ltb-true, lt-ltb}
use Rattle.std.proofs.lemmas.Str.{is_utf8-from_IsUtf8, IsUtf8-from_is_utf8}
use Rattle.jsonml_tree.specs.Data.{PlainScalar, null, boolean, whole, string, PlainAttr, PlainTree, text, element, PlainContent, content, PlainTrees, no_trees, tree, list_of, tree_depth, content_depth, trees_depth}
use Rattle.jsonml_tree.specs.WellFormed.{is_ascending}
use Rattle.keyed_tree.proofs.Kids.{both}
use Rattle.keyed_tree.specs.Data.{PlainKey, scalar, inside, PlainLabel, name_bytes}
use Rattle.xa_fields.specs.Spelling.{IsText}
use Rattle.record_parts.specs.Bounds.{IsScalar, IsAttr, AreAttrs, IsItem, IsInside, AreItems, IsContent, IsValue, IsLabel, deepest}
use Rattle.record_parts.specs.Checks.{text_fits, scalar_fits, each_attr_fits, attrs_fit, item_fits, content_fits, items_fit, value_fits, values_fit, label_fits}
use Rattle.record_parts.specs.Values.{IsShallow}

pub both_hold : (a b : Bool) → IsTrue a → IsTrue b → IsTrue (a && b)
both_hold true b p q = q
both_hold false b p q = absurd cc

three : (a b c : Bool) → IsTrue (a && b && c) → IsTrue a × IsTrue b × IsTrue c
three a b c h = (let p = both (a && b) c h in let q = both a b p.0 in (q.0, q.1, p.1))

all : (a b c : Bool) → IsTrue a → IsTrue b → IsTrue c → IsTrue (a && b && c)
all a b c p q r = both_hold (a && b) c (both_hold a b p q) r

-- ---- texts, scalars and attributes

text_there : (s : List ℕ) → IsTrue (text_fits s) → IsText s
text_there s h = (let p = both (ltb (length s) (2 ^ 32)) (is_utf8 s) h in record { short = ltb-true _ _ p.0; utf8 = IsUtf8-from_is_utf8 s p.1 })

text_back : (s : List ℕ) → IsText s → IsTrue (text_fits s)
text_back s h = both_hold (ltb (length s) (2 ^ 32)) (is_utf8 s) (lt-ltb _ _ h.short) (is_utf8-from_IsUtf8 s h.utf8)

pub scalar_there : (v : PlainScalar) → IsTrue (scalar_fits v) → IsScalar v
scalar_there null h = tt
scalar_there (boolean b) h = tt
scalar_there (whole (pos n)) h = ltb-true _ _ h
scalar_there (whole (negsuc n)) h = ltb-true _ _ h
scalar_there (string s) h = text_there s h

scalar_back : (v : PlainScalar) → IsScalar v → IsTrue (scalar_fits v)
scalar_back null h = refl
scalar_back (boolean b) h = refl
scalar_back (whole (pos n)) h = lt-ltb _ _ h
scalar_back (whole (negsuc n)) h = lt-ltb _ _ h
scalar_back (string s) h = text_back s h

each_there : (xs : List PlainAttr) → IsTrue (each_attr_fits xs) → AllByRecursion IsAttr xs
each_there [] h = tt
each_there (a ∷ xs) h =
    let p = three (text_fits a.name) (scalar_fits a.value) (each_attr_fits xs) h in
    (record { name = text_there a.name p.0; value = scalar_there a.value p.1 }, each_there xs p.2)

each_back : (xs : List PlainAttr) → AllByRecursion IsAttr xs → IsTrue (each_attr_fits xs)
each_back [] h = refl
each_back (a ∷ xs) h = (let first = h.0 in all (text_fits a.name) (scalar_fits a.value) (each_attr_fits xs) (text_back a.name first.name) (scalar_back a.value first.value) (each_back xs h.1))

attrs_there : (xs : List PlainAttr) → IsTrue (attrs_fit xs) → AreAttrs xs
attrs_there xs h =
    let p = three (ltb (length xs) (2 ^ 32)) (each_attr_fits xs) (is_ascending xs) h in
    record { few = ltb-true _ _ p.0; each = each_there xs p.1; ascending = p.2 }

attrs_back : (xs : List PlainAttr) → AreAttrs xs → IsTrue (attrs_fit xs)
attrs_back xs h = all (ltb (length xs) (2 ^ 32)) (each_attr_fits xs) (is_ascending xs) (lt-ltb _ _ h.few) (each_back xs h.each) h.ascending

-- ---- contents

mutual
  item_there : (d : ℕ) (t : PlainTree) → IsTrue (item_fits d t) → IsShallow d t
  item_there d (text s) h = record { item = text_there s h; depth = omega arith }
  item_there zero (element t c) h = absurd cc
  item_there (suc d) (element t c) h =
      let p = both (text_fits t) (content_fits d c) h in
      let r = content_there d c p.1 in
      record { item = (text_there t p.0, r.inside); depth = omega (arith, r.depth) }

  content_there : (d : ℕ) (c : PlainContent) → IsTrue (content_fits d c) → IsContent d c
  content_there d (content xs ts) h =
      let p = three (attrs_fit xs) (ltb (length (list_of ts)) (2 ^ 32)) (items_fit d ts) h in
      let r = items_there d ts p.2 in
      record { inside = (attrs_there xs p.0, ltb-true _ _ p.1, r.0); depth = r.1 }

  items_there : (d : ℕ) (ts : PlainTrees) → IsTrue (items_fit d ts) → AreItems ts × (trees_depth ts ≤ d)
  items_there d no_trees h = (tt, omega arith)
  items_there d (tree t ts) h =
      let p = both (item_fits d t) (items_fit d ts) h in
      let a = item_there d t p.0 in
      let b = items_there d ts p.1 in
      ((a.item, b.0), omega (arith, a.depth, b.1))

mutual
  item_back : (d : ℕ) (t : PlainTree) → IsItem t → tree_depth t ≤ d → IsTrue (item_fits d t)
  item_back d (text s) h le = text_back s h
  item_back zero (element t c) h le = absurd (omega arith)
  item_back (suc d) (element t c) h le = both_hold (text_fits t) (content_fits d c) (text_back t h.0) (content_back d c h.1 (omega arith))

  content_back : (d : ℕ) (c : PlainContent) → IsInside c → content_depth c ≤ d → IsTrue (content_fits d c)
  content_back d (content xs ts) h le =
      all (attrs_fit xs) (ltb (length (list_of ts)) (2 ^ 32)) (items_fit d ts) (attrs_back xs h.0) (lt-ltb _ _ h.1) (items_back d ts h.2 le)

  items_back : (d : ℕ) (ts : PlainTrees) → AreItems ts → trees_depth ts ≤ d → IsTrue (items_fit d ts)
  items_back d no_trees h le = refl
  items_back d (tree t ts) h le = both_hold (item_fits d t) (items_fit d ts) (item_back d t h.0 (omega arith)) (items_back d ts h.1 (omega arith))

-- ---- key values and labels

pub value_there : (k : PlainKey) → IsTrue (value_fits k) → IsValue k
value_there (scalar s) h = scalar_there s h
value_there (inside c) h = content_there deepest c h

pub value_back : (k : PlainKey) → IsValue k → IsTrue (value_fits k)
value_back (scalar s) h = scalar_back s h
value_back (inside c) h = content_back deepest c h.inside h.depth

values_there : (ks : List PlainKey) → IsTrue (values_fit ks) → AllByRecursion IsValue ks
values_there [] h = tt
values_there (k ∷ ks) h = (let p = both (value_fits k) (values_fit ks) h in (value_there k p.0, values_there ks p.1))

values_back : (ks : List PlainKey) → AllByRecursion IsValue ks → IsTrue (values_fit ks)
values_back [] h = refl
values_back (k ∷ ks) h = both_hold (value_fits k) (values_fit ks) (value_back k h.0) (values_back ks h.1)

pub label_there : (l : PlainLabel) → IsTrue (label_fits l) → IsLabel l
label_there l h =
    let p = three (text_fits (name_bytes l.name)) (ltb (length l.keys) (2 ^ 32)) (values_fit l.keys) h in
    record { name = text_there (name_bytes l.name) p.0; few = ltb-true _ _ p.1; keys = values_there l.keys p.2 }

pub label_back : (l : PlainLabel) → IsLabel l → IsTrue (label_fits l)
label_back l h =
    all (text_fits (name_bytes l.name)) (ltb (length l.keys) (2 ^ 32)) (values_fit l.keys) (text_back (name_bytes l.name) h.name) (lt-ltb _ _ h.few) (values_back l.keys h.keys)

pub text_test : (s : List ℕ) → IsUtf8 s → ltb (length s) (2 ^ 32) ≡ text_fits s
text_test s h = (let e = is_utf8-from_IsUtf8 s h in rw e (last (ltb (length s) (2 ^ 32))))
  where
    last : (b : Bool) → b ≡ (b && true)
    last true = refl
    last false = refl

pub value_test : (b : Bool) (k : PlainKey) → b ≡ value_fits k → IsTrue b ↔ IsValue k
value_test b k e = (λ h. value_there k (sym e ∙ h), λ h. e ∙ value_back k h)

pub label_test : (b : Bool) (l : PlainLabel) → b ≡ label_fits l → IsTrue b ↔ IsLabel l
label_test b l e = (λ h. label_there l (sym e ∙ h), λ h. e ∙ label_back l h)
