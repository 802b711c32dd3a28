-- The calls of a printer that print a keyed tree.
use Rattle.std.proofs.Common.{◌≡◌, true, ℕ, zero, suc, ◌<◌, ◌≤◌, List, [], ◌∷◌, ◌++◌, length, get_or, map, refl, sym, ap, ◌∙◌, subst, arith, Box, Global, Vec}
use denote.Param.Weighed.{most}
use Rattle.std.proofs.lemmas.List.{map-append}
use Rattle.std.specs.List.{flat_map}
use Rattle.jsonml_tree.specs.Data.{PlainAttr, PlainTree, content, PlainTrees}
use Rattle.jsonml_print.specs.Calls.{Call, begin, attribute, end, calls_of, content_calls, items_calls}
use Rattle.keyed_tree.specs.Data.{PlainName, attr, tag, PlainKey, scalar, inside, PlainKeyed, inner, leaf, label_of, kids_from}
use Rattle.keyed_tree.specs.Proper.{is_tag}
use Rattle.keyed_tree.specs.Plain.{name_bytes, attr_before, attr_onto, attrs_among, item_onto, items_among, plain}
use Rattle.jsonml_tree.specs.LentAttrs.{lent_attr_view}
use Rattle.jsonml_tree.specs.declared.lent_attr.LentAttr.{LentAttr}
use Rattle.key_annotate.specs.KeyedOf.{attr_leaf}
use Rattle.key_annotate.specs.LentView.{lent_view}
use Rattle.key_annotate.proofs.LentViews.{lent_view-Inner, lent-tagged}
use Rattle.key_annotate.specs.declared.lent.Head.{Head}
use Rattle.key_annotate.specs.declared.lent.LentKeyed.{LentKeyed, Inner}
use Rattle.keyed_print.specs.KeyedText.{calls_by, element_calls}
use Rattle.key_annotate.specs.Inside.{inside_of}
use Rattle.key_annotate.proofs.Insides.{plain-is}

-- a tag, what stands behind it, and the end
pub calls-is : (k : PlainKeyed) → calls_of (plain k) ≡ begin (name_bytes (label_of k).name) ∷ (content_calls (inside_of k) ++ end ∷ [])
calls-is k = ap calls_of (plain-is k)

-- the same, where the name is known
pub calls-named : (k : PlainKeyed) (bytes : List ℕ) → bytes ≡ name_bytes (label_of k).name → calls_of (plain k) ≡ begin bytes ∷ (content_calls (inside_of k) ++ end ∷ [])
calls-named k bytes e = calls-is k ∙ ap (λ b. begin b ∷ (content_calls (inside_of k) ++ end ∷ [])) (sym e)

before-append : (name : PlainName) (b : PlainKey) (rest : List PlainAttr) → attr_before name b rest ≡ attr_before name b [] ++ rest
before-append (attr s) (scalar v) rest = refl
before-append (attr s) (inside c) rest = refl
before-append (tag s) b rest = refl

onto-append : (k : PlainKeyed) (rest : List PlainAttr) → attr_onto k rest ≡ attr_onto k [] ++ rest
onto-append (inner l ks) rest = refl
onto-append (leaf l b) rest = before-append l.name b rest

onto-calls : (name : PlainName) (t : PlainTree) (rest : PlainTrees) → items_calls (item_onto name t rest) ≡ calls_by name (calls_of t) ++ items_calls rest
onto-calls (attr s) t rest = refl
onto-calls (tag s) t rest = refl

-- the calls of the kids that a list is seen as
module _ {X : Type 0} (view : X → PlainKeyed) where
  abbrev attrs_at : X → List Call
  attrs_at k = map attribute (attr_onto (view k) [])

  abbrev element_at : X → List Call
  element_at k = element_calls (view k)

  attrs-calls : (ks : List X) → map attribute (attrs_among (kids_from (map view ks))) ≡ flat_map attrs_at ks
  attrs-calls [] = refl
  attrs-calls (k ∷ ks) =
      let rest = attrs_among (kids_from (map view ks)) in
      ap (map attribute) (onto-append (view k) rest) ∙ map-append attribute (attr_onto (view k) []) rest ∙ ap (λ l. attrs_at k ++ l) (attrs-calls ks)

  items-calls : (ks : List X) → items_calls (items_among (kids_from (map view ks))) ≡ flat_map element_at ks
  items-calls [] = refl
  items-calls (k ∷ ks) =
      onto-calls (label_of (view k)).name (plain (view k)) (items_among (kids_from (map view ks))) ∙ ap (λ l. element_at k ++ l) (items-calls ks)

  -- the attributes among the kids, and then the elements
  pub kids-calls : (ks : List X)
      → content_calls (content (attrs_among (kids_from (map view ks))) (items_among (kids_from (map view ks)))) ≡ flat_map (λ k. map attribute (attr_onto (view k) [])) ks ++ flat_map (λ k. element_calls (view k)) ks
  kids-calls ks = ap (λ l. l ++ items_calls (items_among (kids_from (map view ks)))) (attrs-calls ks) ∙ ap (λ l. flat_map attrs_at ks ++ l) (items-calls ks)

-- the calls of one attribute, and of one kid
abbrev pub attr_calls : LentAttr → List Call
attr_calls x = attribute (lent_attr_view x) ∷ []

abbrev pub kid_calls : LentKeyed → List Call
kid_calls k = calls_of (plain (lent_view k))

-- a kid that is named by a tag is among the elements, and not among the attributes
before-tag : (n : PlainName) (b : PlainKey) (rest : List PlainAttr) → is_tag n ≡ true → attr_before n b rest ≡ rest
before-tag (attr s) b rest e = cc
before-tag (tag s) b rest e = refl

onto-tag : (k : PlainKeyed) (rest : List PlainAttr) → is_tag (label_of k).name ≡ true → attr_onto k rest ≡ rest
onto-tag (inner l ks) rest e = refl
onto-tag (leaf l b) rest e = before-tag l.name b rest e

calls-tag : (n : PlainName) (cs : List Call) → is_tag n ≡ true → calls_by n cs ≡ cs
calls-tag (attr s) cs e = cc
calls-tag (tag s) cs e = refl

-- attributes, and behind them such kids
attrs-behind : (as' : List PlainAttr) (ks : List LentKeyed) → attrs_among (kids_from (map attr_leaf as' ++ map lent_view ks)) ≡ as'
attrs-behind [] [] = refl
attrs-behind [] (k ∷ ks) = onto-tag (lent_view k) (attrs_among (kids_from (map lent_view ks))) (lent-tagged k) ∙ attrs-behind [] ks
attrs-behind (a ∷ as') ks = ap (λ xs. a ∷ xs) (attrs-behind as' ks)

items-behind : (as' : List PlainAttr) (ks : List LentKeyed) → items_calls (items_among (kids_from (map attr_leaf as' ++ map lent_view ks))) ≡ flat_map kid_calls ks
items-behind [] [] = refl
items-behind [] (k ∷ ks) =
    onto-calls (label_of (lent_view k)).name (plain (lent_view k)) (items_among (kids_from (map lent_view ks)))
    ∙ ap (λ l. l ++ items_calls (items_among (kids_from (map lent_view ks)))) (calls-tag (label_of (lent_view k)).name (kid_calls k) (lent-tagged k)) ∙ ap (λ l. kid_calls k ++ l) (items-behind [] ks)
items-behind (a ∷ as') ks = items-behind as' ks

attrs-each : (xs : List LentAttr) → map attribute (map lent_attr_view xs) ≡ flat_map attr_calls xs
attrs-each [] = refl
attrs-each (x ∷ xs) = ap (λ l. attribute (lent_attr_view x) ∷ l) (attrs-each xs)

-- no element weighs more than the heaviest
pub most_at : {X : Type 0} (f : X → ℕ) (xs : List X) (i : ℕ) (x : X) → i < length xs → x ≡ get_or xs i x → f x ≤ most f xs
most_at f xs i x within is = subst (λ y. f y ≤ most f xs) (sym is) (at f xs i x within)
  where
    at : {X : Type 0} (f : X → ℕ) (xs : List X) (i : ℕ) (d : X) → i < length xs → f (get_or xs i d) ≤ most f xs
    at f [] i d within = absurd (omega (arith, within))
    at f (x ∷ xs) zero d within = omega arith
    at f (x ∷ xs) (suc i) d within = omega (arith, at f xs i d (omega (arith, within)))

-- what stands behind the tag of an inner node
pub inside_of-Inner : (k : LentKeyed) (h : Box Head Global) (ks : Vec LentKeyed Global) (xs : List LentAttr) (js : List LentKeyed) → k ≡ Inner h ks → xs ≡ h.value.attrs.now → js ≡ ks.items
    → content_calls (inside_of (lent_view k)) ≡ flat_map attr_calls xs ++ flat_map kid_calls js
inside_of-Inner k h ks xs js e d f =
    let as' = map lent_attr_view h.value.attrs.now in
    let rest = items_calls (items_among (kids_from (map attr_leaf as' ++ map lent_view ks.items))) in
    ap (λ j. content_calls (inside_of (lent_view j))) e ∙ ap (λ v. content_calls (inside_of v)) (lent_view-Inner h ks) ∙ ap (λ ys. map attribute ys ++ rest) (attrs-behind as' ks.items)
    ∙ ap (λ cs. cs ++ rest) (attrs-each h.value.attrs.now) ∙ ap (λ cs. flat_map attr_calls h.value.attrs.now ++ cs) (items-behind as' ks.items)
    ∙ ap (λ (ys : List LentAttr). flat_map attr_calls ys ++ flat_map kid_calls ks.items) (sym d) ∙ ap (λ (zs : List LentKeyed). flat_map attr_calls xs ++ flat_map kid_calls zs) (sym f)
