-- What the keyed tree of a document has of its texts: an element's label is named by its tag, and what is UTF-8 stays so.
use Rattle.std.proofs.Common.{◌≡◌, ◌⊎◌, ℕ, Bool, true, false, List, [], ◌∷◌, Option, Some, None, Ok, Err, refl, ap, sym, subst, ◌∙◌, inl, inr}
use Rattle.std.specs.Prelude.{Any, ⊤}
use Rattle.std.specs.Bool.{MatchBool}
use Rattle.std.specs.List.{AllByRecursion}
use Rattle.std.specs.Str.{IsUtf8}
use Rattle.jsonml_tree.specs.Data.{PlainAttr, PlainTree, text, element, PlainContent, content, PlainTrees, no_trees, tree}
use Rattle.jsonml_text.specs.Texts.{IsScalarText, AreAttrTexts, AreTexts, AreContentTexts, AreItemTexts}
use Rattle.key_spec.specs.Data.{PlainRule}
use Rattle.key_spec.specs.Rules.{rule_of, is_frontier, below}
use Rattle.key_rules.specs.Labels.{and_then, keys_from, label_by, label_in}
use Rattle.keyed_tree.specs.Data.{PlainName, attr, tag, PlainKey, scalar, inside, PlainLabel, PlainKeyed, inner, leaf, PlainKids, no_kids, kid, kids_from, kids_of, label_of, name_bytes}
use Rattle.keyed_tree.specs.Plain.{content_of, attr_before, attrs_among, item_onto, items_among, plain}
use Rattle.jsonml_tree.proofs.Lists.{any_has, all_has}
use Rattle.key_annotate.specs.KeyedOf.{attr_leaf, InnerKeyed, ContentKeyed, EachIsKid, IsOfItem, IsKeyedTreeOf}
use Rattle.key_annotate.specs.Annotated.{label_or_bare}

-- ---- the name in a label

pub label_name : (rule : Option PlainRule) (t : List ℕ) (c : PlainContent) → (label_or_bare t (label_by rule t c)).name ≡ tag t
label_name None t c = refl
label_name (Some r) t c = elim (keys_from 1 r.paths c) as (λ o. (label_or_bare t (and_then o (λ ks. Ok (record { name = tag t; keys = ks })))).name ≡ tag t) [ Ok ks ↦ refl | Err e ↦ refl ]

pub label-name : (rules : List PlainRule) (context : List (List ℕ)) (t : List ℕ) (c : PlainContent) (l : PlainLabel) → label_in rules context t c ≡ Ok l → l.name ≡ tag t
label-name rules context t c l e = ap (λ r. (label_or_bare t r).name) (sym e) ∙ label_name (rule_of rules context t) t c

-- ---- keyed trees whose texts are UTF-8

abbrev IsTextBody : PlainKey → Type 0
IsTextBody (scalar v) = IsScalarText v
IsTextBody (inside c) = AreContentTexts c

abbrev mutual
  IsTextKeyed : PlainKeyed → Type 0
  IsTextKeyed (inner l ks) = IsUtf8 (name_bytes l.name) × AreTextKids ks
  IsTextKeyed (leaf l b) = IsUtf8 (name_bytes l.name) × IsTextBody b

  AreTextKids : PlainKids → Type 0
  AreTextKids no_kids = ⊤
  AreTextKids (kid k ks) = IsTextKeyed k × AreTextKids ks

before-texts : (n : PlainName) (b : PlainKey) (xs : List PlainAttr) → IsUtf8 (name_bytes n) → IsTextBody b → AreAttrTexts xs → AreAttrTexts (attr_before n b xs)
before-texts (attr s) (scalar v) xs h g t = (h, g, t)
before-texts (attr s) (inside c) xs h g t = t
before-texts (tag s) b xs h g t = t

onto-texts : (n : PlainName) (i : PlainTree) (ts : PlainTrees) → AreTexts i → AreItemTexts ts → AreItemTexts (item_onto n i ts)
onto-texts (attr s) i ts h t = t
onto-texts (tag s) i ts h t = (h, t)

among-attrs : (ks : PlainKids) → AreTextKids ks → AreAttrTexts (attrs_among ks)
among-attrs no_kids h = tt
among-attrs (kid (inner l js) ks) h = among-attrs ks h.1
among-attrs (kid (leaf l b) ks) h = before-texts l.name b (attrs_among ks) h.0.0 h.0.1 (among-attrs ks h.1)

body-texts : (b : PlainKey) → IsTextBody b → AreContentTexts (content_of b)
body-texts (scalar v) h = (tt, tt)
body-texts (inside c) h = h

mutual
  plain-texts : (k : PlainKeyed) → IsTextKeyed k → AreTexts (plain k)
  plain-texts (inner l ks) h = (h.0, (among-attrs ks h.1, kids-texts ks h.1))
  plain-texts (leaf l b) h = (h.0, body-texts b h.1)

  kids-texts : (ks : PlainKids) → AreTextKids ks → AreItemTexts (items_among ks)
  kids-texts no_kids h = tt
  kids-texts (kid k ks) h = onto-texts (label_of k).name (plain k) (items_among ks) (plain-texts k h.0) (kids-texts ks h.1)

-- ---- those of a document

named : (n : PlainName) (t : List ℕ) → n ≡ tag t → IsUtf8 t → IsUtf8 (name_bytes n)
named n t e u = subst (λ (m : PlainName). IsUtf8 (name_bytes m)) (sym e) u

abbrev IsTextAttr : PlainAttr → Type 0
IsTextAttr a = IsUtf8 a.name × IsScalarText a.value

each-attr : (xs : List PlainAttr) → AreAttrTexts xs → AllByRecursion IsTextAttr xs
each-attr [] h = tt
each-attr (x ∷ xs) h = ((h.0, h.1), each-attr xs h.2)

attr-text : (xs : List PlainAttr) (z : PlainKeyed) → AreAttrTexts xs → Any (λ a. z ≡ attr_leaf a) xs → IsTextKeyed z
attr-text xs z h some =
    let found = any_has (λ a. z ≡ attr_leaf a) xs some in
    let texts : IsTextAttr found.0 = all_has IsTextAttr xs found.0 (each-attr xs h) found.1.0 in
    subst IsTextKeyed (sym found.1.1) (texts.0, texts.1)

each-text : (P : PlainKeyed → Type 0) (xs : List PlainAttr) (ks : List PlainKeyed) → AreAttrTexts xs → ((z : PlainKeyed) → P z → IsTextKeyed z) → AllByRecursion (λ c. Any (λ a. c ≡ attr_leaf a) xs ⊎ P c) ks → AreTextKids (kids_from ks)
each-text P xs [] t f h = tt
each-text P xs (k ∷ ks) t f h = (elim h.0 [ inl a ↦ attr-text xs k t a | inr p ↦ f k p ], each-text P xs ks t f h.1)

by-cases : (b : Bool) (P Q G : Type 0) → (P → G) → (Q → G) → MatchBool b P Q → G
by-cases true P Q G f g h = f h
by-cases false P Q G f g h = g h

mutual
  content-text : (rules : List PlainRule) (context : List (List ℕ)) (t : List ℕ) (c : PlainContent) (k : PlainKeyed) → (label_of k).name ≡ tag t → IsUtf8 t → AreContentTexts c → ContentKeyed rules (below context t) c k → IsTextKeyed k
  content-text rules context t (content xs ts) k e u h g =
      let path = below context t in
      by-cases (is_frontier rules path) (k ≡ leaf (label_of k) (inside (content xs ts))) (InnerKeyed xs k (EachIsKid rules path ts k) (IsOfItem rules path ts)) (IsTextKeyed k)
      (λ is. subst IsTextKeyed (sym is) (named (label_of k).name t e u, h))
      (λ i. subst IsTextKeyed (sym i.node) (named (label_of k).name t e u, each-text (IsOfItem rules path ts) xs (kids_of k) h.0 (item-text rules path ts h.1) i.only)) g

  item-text : (rules : List PlainRule) (path : List (List ℕ)) (ts : PlainTrees) → AreItemTexts ts → (z : PlainKeyed) → IsOfItem rules path ts z → IsTextKeyed z
  item-text rules path no_trees h z g = absurd g
  item-text rules path (tree (text x) ts) h z g = elim g [ inl n ↦ absurd n | inr n ↦ item-text rules path ts h.1 z n ]
  item-text rules path (tree (element t c) ts) h z g = elim g [
    | inl n ↦ content-text rules path t c z (label-name rules path t c (label_of z) n.0) h.0.0 h.0.1 n.1
    | inr n ↦ item-text rules path ts h.1 z n
  ]

keyed-text : (rules : List PlainRule) (t : PlainTree) (k : PlainKeyed) → AreTexts t → IsKeyedTreeOf rules t k → IsTextKeyed k
keyed-text rules (text s) k h g = absurd g
keyed-text rules (element t c) k h g = content-text rules [] t c k (label-name rules [] t c (label_of k) g.0) h.0 h.1 g.1

pub keyed-texts : (rules : List PlainRule) (t : PlainTree) (k : PlainKeyed) → AreTexts t → IsKeyedTreeOf rules t k → AreTexts (plain k)
keyed-texts rules t k h g = plain-texts k (keyed-text rules t k h g)
