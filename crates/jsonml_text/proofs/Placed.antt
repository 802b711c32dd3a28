-- Attributes that are put one after another are those attributes in the order of their names, where no two have one name.
use Rattle.std.proofs.Common.{◌≡◌, ℕ, IsTrue, List, [], ◌∷◌, ◌++◌, map, refl, sym, subst, ◌∙◌, ◌⊎◌, inl, inr}
use Rattle.std.proofs.lemmas.Bool.{and_parts}
use Rattle.std.proofs.lemmas.Cmp.{nat_list_cmp_total}
use Rattle.std.proofs.lemmas.List.Sorted.{IsPermutation-sym}
use Rattle.std.proofs.lemmas.List.Sums.{fold-append}
use Rattle.std.proofs.lemmas.Map.Lookups.{exact_bytes}
use Rattle.std.specs.List.{AllByRecursion, fold}
use Rattle.std.specs.List.Sorted.{IsPermutation}
use Rattle.std.specs.Ordering.{is_lt, match_ordering}
use Rattle.std.specs.declared.cmp.Ordering.{Ordering}
use Rattle.std.specs.declared.cmp.Ordering.TheVariants.{Less, Equal, Greater}
use Rattle.jsonml_tree.specs.Data.{PlainAttr}
use Rattle.jsonml_tree.specs.Lists.{Ascends, Has}
use Rattle.jsonml_tree.specs.Order.{text_cmp}
use Rattle.jsonml_tree.specs.WellFormed.{ascends, is_ascending}
use Rattle.jsonml_tree.proofs.Lists.{has_map, has_permuted, one_of_key, same_items, source}
use Rattle.jsonml_text.specs.Straight.{placed, put_attr}
use Rattle.jsonml_text.proofs.Straightness.{is_ascending-put}

abbrev name_of : PlainAttr → List ℕ
name_of a = a.name

-- some attribute has the name
abbrev Named : List ℕ → List PlainAttr → Type 0
Named n xs = Has n (map name_of xs)

abbrev put_onto : List PlainAttr → PlainAttr → List PlainAttr
put_onto xs a = put_attr a xs

pub placed-append : (xs : List PlainAttr) (a : PlainAttr) → placed (xs ++ a ∷ []) ≡ put_attr a (placed xs)
placed-append xs a = fold-append put_onto [] xs (a ∷ [])

-- ---- what is put among attributes, and what was there

has_among : (o : Ordering) (z a x : PlainAttr) (xs more : List PlainAttr) → text_cmp a.name x.name ≡ o → (Has z more → Has z (a ∷ xs))
    → Has z (match_ordering o (a ∷ x ∷ xs) (record { name = x.name; value = a.value } ∷ xs) (x ∷ more)) → Has z (a ∷ x ∷ xs)
has_among Less z a x xs more e f m = m
has_among Equal z a x xs more e f m =
    let names : a.name ≡ x.name = exact_bytes a.name x.name e in
    let same : a ≡ record { name = x.name; value = a.value } = λ i. record { name = names i; value = a.value } in
    elim m [ inl d ↦ inl (same ∙ d) | inr n ↦ inr (inr n) ]
has_among Greater z a x xs more e f m = elim m [ inl d ↦ inr (inl d) | inr n ↦ elim (f n) [ inl d ↦ inl d | inr r ↦ inr (inr r) ] ]

has-put : (z a : PlainAttr) (xs : List PlainAttr) → Has z (put_attr a xs) → Has z (a ∷ xs)
has-put z a [] m = m
has-put z a (x ∷ xs) m = has_among (text_cmp a.name x.name) z a x xs (put_attr a xs) refl (has-put z a xs) m

named_among : (o : Ordering) (n : List ℕ) (a x : PlainAttr) (xs more : List PlainAttr) → text_cmp a.name x.name ≡ o → (Named n (a ∷ xs) → Named n more)
    → Named n (a ∷ x ∷ xs) → Named n (match_ordering o (a ∷ x ∷ xs) (record { name = x.name; value = a.value } ∷ xs) (x ∷ more))
named_among Less n a x xs more e f m = m
named_among Equal n a x xs more e f m = elim m [ inl d ↦ inl (sym (exact_bytes a.name x.name e) ∙ d) | inr r ↦ r ]
named_among Greater n a x xs more e f m = elim m [ inl d ↦ inr (f (inl d)) | inr r ↦ elim r [ inl d ↦ inl d | inr q ↦ inr (f (inr q)) ] ]

named-put : (n : List ℕ) (a : PlainAttr) (xs : List PlainAttr) → Named n (a ∷ xs) → Named n (put_attr a xs)
named-put n a [] m = m
named-put n a (x ∷ xs) m = named_among (text_cmp a.name x.name) n a x xs (put_attr a xs) refl (named-put n a xs) m

-- ---- the same of many, one after another

fold-has : (z : PlainAttr) (ys xs : List PlainAttr) → Has z (fold put_onto ys xs) → Has z ys ⊎ Has z xs
fold-has z ys [] m = inl m
fold-has z ys (x ∷ xs) m = elim (fold-has z (put_attr x ys) xs m) [
  | inl p ↦ elim (has-put z x ys p) [ inl d ↦ inr (inl d) | inr q ↦ inl q ]
  | inr q ↦ inr (inr q)
]

fold-named : (n : List ℕ) (ys xs : List PlainAttr) → Named n ys ⊎ Named n xs → Named n (fold put_onto ys xs)
fold-named n ys [] m = elim m [ inl p ↦ p | inr q ↦ absurd q ]
fold-named n ys (x ∷ xs) m = fold-named n (put_attr x ys) xs (elim m [
  | inl p ↦ inl (named-put n x ys (inr p))
  | inr q ↦ elim q [ inl d ↦ inl (named-put n x ys (inl d)) | inr r ↦ inr r ]
])

fold-ascends : (ys xs : List PlainAttr) → IsTrue (is_ascending ys) → IsTrue (is_ascending (fold put_onto ys xs))
fold-ascends ys [] up = up
fold-ascends ys (x ∷ xs) up = fold-ascends (put_attr x ys) xs (is_ascending-put x ys up)

-- ---- names that ascend

is_less : (o : Ordering) → IsTrue (is_lt o) → o ≡ Less
is_less Less h = refl
is_less Equal h = cc
is_less Greater h = cc

above_all : (l m : List ℕ) (ns : List (List ℕ)) → text_cmp l m ≡ Less → AllByRecursion (λ n. text_cmp m n ≡ Less) ns → AllByRecursion (λ n. text_cmp l n ≡ Less) ns
above_all l m [] e h = tt
above_all l m (n ∷ ns) e h = (nat_list_cmp_total.trans l m n e h.0, above_all l m ns e h.1)

names_above : (last : List ℕ) (xs : List PlainAttr) → IsTrue (ascends last xs) → AllByRecursion (λ n. text_cmp last n ≡ Less) (map name_of xs) × Ascends text_cmp (map name_of xs)
names_above last [] h = (tt, tt)
names_above last (x ∷ xs) h =
    let both = and_parts (is_lt (text_cmp last x.name)) (ascends x.name xs) h in
    let less : text_cmp last x.name ≡ Less = is_less (text_cmp last x.name) both.0 in
    let rest = names_above x.name xs both.1 in
    ((less, above_all last x.name (map name_of xs) less rest.0), rest)

names_rise : (xs : List PlainAttr) → IsTrue (is_ascending xs) → Ascends text_cmp (map name_of xs)
names_rise [] h = tt
names_rise (x ∷ xs) h = names_above x.name xs h

-- ---- what is put in any order, and the same with its names in order

module _ (xs ys : List PlainAttr) (p : IsPermutation xs ys) (up : IsTrue (is_ascending ys)) where
  there : (z : PlainAttr) → Has z (placed xs) → Has z ys
  there z m = has_permuted xs ys p z (elim (fold-has z [] xs m) [ inl q ↦ absurd q | inr q ↦ q ])

  -- the one that has its name is itself, for no two of these have one name
  and_back : (z : PlainAttr) → Has z ys → Has z (placed xs)
  and_back z m =
      let among : Has z xs = has_permuted ys xs (IsPermutation-sym xs ys p) z m in
      let s = source name_of z.name (placed xs) (fold-named z.name [] xs (inr (has_map name_of z xs among))) in
      let same : s.item ≡ z = one_of_key name_of nat_list_cmp_total ys (names_rise ys up) s.item z (there s.item s.has) m s.is in
      subst (λ w. Has w (placed xs)) same s.has

  pub placed-sorted : placed xs ≡ ys
  placed-sorted = same_items name_of nat_list_cmp_total (placed xs) ys (names_rise (placed xs) (fold-ascends [] xs refl)) (names_rise ys up) there and_back
