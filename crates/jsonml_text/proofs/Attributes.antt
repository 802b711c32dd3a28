-- The attributes of an element, one after the other.
use Rattle.std.proofs.Common.{◌≡◌, ℕ, List, [], ◌∷◌, ◌++◌, map, Result, Ok, Err, String, Global, string_bytes, IsTrue, refl, sym, ap, ◌∙◌, subst, append_assoc, append-nil}
use Rattle.std.proofs.lemmas.Bool.{and_parts, and_from}
use Rattle.std.specs.Ordering.{is_lt}
use Rattle.std.specs.List.{AllByRecursion}
use Rattle.std.specs.List.Sorted.{IsStrictlySortedBy}
use Rattle.std.specs.declared.cmp.Ordering.TheVariants.{Less}
use Rattle.serde_json.specs.View.{view as data_of, members_view}
use Rattle.serde_json.specs.declared.value.Value.{Value}
use Rattle.jsonml_tree.specs.Data.{PlainAttr, PlainScalar}
use Rattle.jsonml_tree.specs.Order.{text_cmp}
use Rattle.jsonml_tree.specs.WellFormed.{ascends, is_ascending, is_in_range, are_in_range}
use Rattle.jsonml_text.specs.Spelled.{ShapeFault, and_then, mapped, scalar_at, attrs_at}

-- ---- these attributes and those of the rest

mapped_twice : {A B C : Type 0} (f : B → C) (g : A → B) (r : Result A ShapeFault) → mapped f (mapped g r) ≡ mapped (λ x. f (g x)) r
mapped_twice f g (Ok x) = refl
mapped_twice f g (Err e) = refl

mapped_same : {A B : Type 0} (f g : A → B) (r : Result A ShapeFault) → ((x : A) → f x ≡ g x) → mapped f r ≡ mapped g r
mapped_same f g (Ok x) e = ap Ok (e x)
mapped_same f g (Err x) e = refl

module _ (place : List ℕ) where
  -- the first fault
  pub attrs_stop : (done : List PlainAttr) (rest next : List (String Global × Value)) (name : String Global) (v : Value) (fault : ShapeFault) → rest ≡ (name, v) ∷ next → scalar_at place (data_of v) ≡ Err fault
      → mapped (λ xs. done ++ xs) (attrs_at place (members_view rest)) ≡ Err fault
  attrs_stop done rest next name v fault is e =
      ap (λ l. mapped (λ xs. done ++ xs) (attrs_at place (members_view l))) is
      ∙ ap (λ r. mapped (λ xs. done ++ xs) (and_then r (λ s. mapped (λ xs. record { name = string_bytes name; value = s } ∷ xs) (attrs_at place (members_view next))))) e

  -- one more attribute
  pub attrs_step : (done : List PlainAttr) (rest next : List (String Global × Value)) (name : String Global) (v : Value) (s : PlainScalar) → rest ≡ (name, v) ∷ next → scalar_at place (data_of v) ≡ Ok s
      → mapped (λ xs. (done ++ record { name = string_bytes name; value = s } ∷ []) ++ xs) (attrs_at place (members_view next)) ≡ mapped (λ xs. done ++ xs) (attrs_at place (members_view rest))
  attrs_step done rest next name v s is e =
      let a : PlainAttr = record { name = string_bytes name; value = s } in
      let turn : attrs_at place (members_view rest) ≡ mapped (λ xs. a ∷ xs) (attrs_at place (members_view next)) =
      ap (λ l. attrs_at place (members_view l)) is ∙ ap (λ r. and_then r (λ s. mapped (λ xs. record { name = string_bytes name; value = s } ∷ xs) (attrs_at place (members_view next)))) e in
      mapped_same _ _ (attrs_at place (members_view next)) (λ xs. append_assoc done (a ∷ []) xs) ∙ sym (mapped_twice (λ xs. done ++ xs) (λ xs. a ∷ xs) (attrs_at place (members_view next))) ∙ ap (mapped (λ xs. done ++ xs)) (sym turn)

  pub attrs_done : (done : List PlainAttr) (rest : List (String Global × Value)) → rest ≡ [] → mapped (λ xs. done ++ xs) (attrs_at place (members_view rest)) ≡ Ok done
  attrs_done done rest none = ap (λ l. mapped (λ xs. done ++ xs) (attrs_at place (members_view l))) none ∙ ap Ok (append-nil done)

  pub attrs_begin : (rest : List (String Global × Value)) → mapped (λ xs. [] ++ xs) (attrs_at place (members_view rest)) ≡ attrs_at place (members_view rest)
  attrs_begin rest = same (attrs_at place (members_view rest))
    where
      same : (r : Result (List PlainAttr) ShapeFault) → mapped (λ xs. [] ++ xs) r ≡ r
      same (Ok x) = refl
      same (Err e) = refl

-- ---- what is kept

pub in_range_push : (xs : List PlainAttr) (a : PlainAttr) → IsTrue (are_in_range xs) → IsTrue (is_in_range a.value) → IsTrue (are_in_range (xs ++ a ∷ []))
in_range_push [] a p q = and_from _ _ q refl
in_range_push (x ∷ xs) a p q = let both = and_parts (is_in_range x.value) _ p in and_from _ _ both.0 (in_range_push xs a both.1 q)

abbrev names : List PlainAttr → List (List ℕ)
names xs = map (λ x. x.name) xs

ascends-from_sorted : (last : String Global) (ks : List (String Global)) (xs : List PlainAttr) → names xs ≡ map string_bytes ks → AllByRecursion (λ k. text_cmp (string_bytes last) (string_bytes k) ≡ Less) ks
    → IsStrictlySortedBy (λ j k. text_cmp (string_bytes j) (string_bytes k)) ks → IsTrue (ascends (string_bytes last) xs)
unfolding IsStrictlySortedBy
ascends-from_sorted last [] [] e below sorted = refl
ascends-from_sorted last [] (x ∷ xs) e below sorted = absurd (cc)
ascends-from_sorted last (k ∷ ks) [] e below sorted = refl
ascends-from_sorted last (k ∷ ks) (x ∷ xs) e below sorted =
    let here : string_bytes k ≡ x.name = cc in
    let rest : names xs ≡ map string_bytes ks = cc in
    and_from _ _ (ap is_lt (subst (λ (n : List ℕ). text_cmp (string_bytes last) n ≡ Less) here below.0))
    (subst (λ (n : List ℕ). IsTrue (ascends n xs)) here (ascends-from_sorted k ks xs rest sorted.0 sorted.1))

-- names that ascend in a map ascend in its attributes
pub is_ascending-from_sorted : (ks : List (String Global)) (xs : List PlainAttr) → names xs ≡ map string_bytes ks → IsStrictlySortedBy (λ j k. text_cmp (string_bytes j) (string_bytes k)) ks → IsTrue (is_ascending xs)
unfolding IsStrictlySortedBy
is_ascending-from_sorted ks [] e sorted = refl
is_ascending-from_sorted [] (x ∷ xs) e sorted = absurd (cc)
is_ascending-from_sorted (k ∷ ks) (x ∷ xs) e sorted =
    let here : string_bytes k ≡ x.name = cc in
    let rest : names xs ≡ map string_bytes ks = cc in
    subst (λ (n : List ℕ). IsTrue (ascends n xs)) here (ascends-from_sorted k ks xs rest sorted.0 sorted.1)

names_after : (place : List ℕ) (m : String Global × Value) (ms : List (String Global × Value)) (xs : List PlainAttr) (s : PlainScalar) (r : Result (List PlainAttr) ShapeFault) → ((ys : List PlainAttr) → r ≡ Ok ys → names ys ≡ map string_bytes (map (λ m. m.0) ms))
    → mapped (λ xs. record { name = string_bytes m.0; value = s } ∷ xs) r ≡ Ok xs → names xs ≡ map string_bytes (map (λ m. m.0) (m ∷ ms))
names_after place m ms xs s (Ok ys) rest e = let whole : record { name = string_bytes m.0; value = s } ∷ ys ≡ xs = cc in ap names (sym whole) ∙ ap (λ l. string_bytes m.0 ∷ l) (rest ys refl)
names_after place m ms xs s (Err f) rest e = absurd (cc)

names_from : (place : List ℕ) (m : String Global × Value) (ms : List (String Global × Value)) (xs : List PlainAttr) (r : Result PlainScalar ShapeFault) → ((ys : List PlainAttr) → attrs_at place (members_view ms) ≡ Ok ys → names ys ≡ map string_bytes (map (λ m. m.0) ms))
    → and_then r (λ s. mapped (λ xs. record { name = string_bytes m.0; value = s } ∷ xs) (attrs_at place (members_view ms))) ≡ Ok xs → names xs ≡ map string_bytes (map (λ m. m.0) (m ∷ ms))
names_from place m ms xs (Ok s) rest e = names_after place m ms xs s (attrs_at place (members_view ms)) rest e
names_from place m ms xs (Err f) rest e = absurd (cc)

-- the names of what an object spells are its own
pub names_kept : (place : List ℕ) (ms : List (String Global × Value)) (xs : List PlainAttr) → attrs_at place (members_view ms) ≡ Ok xs → names xs ≡ map string_bytes (map (λ m. m.0) ms)
names_kept place [] xs e = let none : [] ≡ xs = cc in ap names (sym none)
names_kept place (m ∷ ms) xs e = names_from place m ms xs (scalar_at place (data_of m.1)) (λ ys. names_kept place ms ys) e
