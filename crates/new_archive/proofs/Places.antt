-- What a search by halving tells of a row.
use Rattle.std.proofs.Common.{◌≡◌, ℕ, zero, suc, ◌+◌, ◌<◌, ◌≤◌, List, [], ◌∷◌, map, length, slice_get, get_or, None, Result, Ok, Err, refl, ap, sym, subst, ◌∙◌, arith}
use Rattle.std.proofs.lemmas.List.{get_or-map, length-map}
use Rattle.std.proofs.lemmas.List.Sorted.{searchable_from_sorted}
use Rattle.std.specs.List.Sorted.{IsSortedBy, IsSearchInRange, IsBinarySearchResult}
use Rattle.std.specs.List.{AllByRecursion}
use Rattle.std.specs.Ordering.{is_lt, ordering_reverse}
use Rattle.std.specs.declared.cmp.Ordering.TheVariants.{Less, Equal, Greater}
use Rattle.keyed_tree.specs.Data.{PlainLabel}
use Rattle.keyed_tree.specs.Laws.{label_cmp_total, label_cmp_exact}
use Rattle.keyed_tree.specs.Lists.{Ascends}
use Rattle.keyed_tree.specs.Order.{label_cmp}
use Rattle.new_archive.specs.Full.{PlainFull, full_label}
use Rattle.new_archive.specs.Place.{IsPlaceOf}

module _ {X : Type 0} (view : X → PlainFull) where
  abbrev pub name : X → PlainLabel
  name x = full_label (view x)

  names : (xs : List X) → map full_label (map view xs) ≡ map name xs
  names [] = refl
  names (x ∷ xs) = ap (λ z. name x ∷ z) (names xs)

  sorted : (xs : List X) → Ascends label_cmp (map name xs) → IsSortedBy (λ a b. is_lt (label_cmp (name a) (name b))) xs
  sorted [] up k d low high = absurd (omega arith)
  sorted (x ∷ []) up k d low high = absurd (omega arith)
  sorted (x ∷ y ∷ xs) up zero d low high = (let below = up.0.0 in let back = label_cmp_total.antisymm (name y) (name x) in grind arith)
  sorted (x ∷ y ∷ xs) up (suc k) d low high = let e : suc k + 1 ≡ suc (k + 1) = omega arith in rw e (sorted (y ∷ xs) up.1 k d (omega arith) (omega arith))

  -- the label at a place of the row
  label_at : (xs : List X) (i : ℕ) (d : X) (e : PlainFull) → i < length xs → full_label (get_or (map view xs) i e) ≡ name (get_or xs i d)
  label_at xs i d e low = ap full_label (get_or-map view xs i d e low)

  pub search_place : (l : PlainLabel) (xs : List X) (r : Result ℕ ℕ) → Ascends label_cmp (map full_label (map view xs)) → IsSearchInRange r (length xs) → IsBinarySearchResult (λ x. label_cmp (name x) l) xs r → IsPlaceOf l (map view xs) r
  search_place l [] (Ok i) up range is = absurd (omega arith)
  search_place l [] (Err i) up range is = (range, λ j d low. absurd (omega arith), λ j d from low. absurd (omega arith))
  search_place l (x ∷ xs) (Ok i) up range is =
      let many : length (map view (x ∷ xs)) ≡ length (x ∷ xs) = length-map (x ∷ xs) view in
      (omega arith, λ d. label_at (x ∷ xs) i x d range ∙ label_cmp_exact (name (get_or (x ∷ xs) i x)) l (is x))
  search_place l (x ∷ xs) (Err i) up range is =
      let many : length (map view (x ∷ xs)) ≡ length (x ∷ xs) = length-map (x ∷ xs) view in
      let split = is (searchable_from_sorted label_cmp_total name (x ∷ xs) l (sorted (x ∷ xs) (subst (Ascends label_cmp) (names (x ∷ xs)) up))) in (
        omega arith,
        λ j d low. ap (λ m. label_cmp m l) (label_at (x ∷ xs) j x d (omega arith)) ∙ split.0 j x (omega arith) low,
        λ j d from low. ap (λ m. label_cmp m l) (label_at (x ∷ xs) j x d (omega arith)) ∙ split.1 j x from (omega arith),
      )

  -- the first node has the label
  pub first_place : (l : PlainLabel) (xs : List X) (x : X) → 0 < length xs → x ≡ get_or xs 0 x → label_cmp (name x) l ≡ Equal → IsPlaceOf l (map view xs) (Ok 0)
  first_place l xs x low first e =
      let many : length (map view xs) ≡ length xs = length-map xs view in
      (omega arith, λ d. label_at xs 0 x d low ∙ ap name (sym first) ∙ label_cmp_exact (name x) l e)

  above_each : (l m : PlainLabel) (ks : List PlainFull) → label_cmp m l ≡ Greater → AllByRecursion (λ y. label_cmp m y ≡ Less) (map full_label ks) → (j : ℕ) (d : PlainFull) → j < length ks → label_cmp (full_label (get_or ks j d)) l ≡ Greater
  above_each l m [] e h j d low = absurd (omega (arith, low))
  above_each l m (k ∷ ks) e h zero d low =
      let below : label_cmp l m ≡ Less = label_cmp_total.antisymm l m ∙ ap ordering_reverse e in
      label_cmp_total.antisymm (full_label k) l ∙ ap ordering_reverse (label_cmp_total.trans l m (full_label k) below h.0)
  above_each l m (k ∷ ks) e h (suc j) d low = above_each l m ks e h.1 j d (omega (arith, low))

  -- the first node is above the label, and so are all behind it
  pub first_above : (l : PlainLabel) (xs : List X) (x : X) → 0 < length xs → x ≡ get_or xs 0 x → Ascends label_cmp (map full_label (map view xs)) → label_cmp (name x) l ≡ Greater → IsPlaceOf l (map view xs) (Err 0)
  first_above l [] x low first up e = absurd (omega (arith, low))
  first_above l (y ∷ ys) x low first up e = (omega arith, (λ j d under. absurd (omega (arith, under))), go)
    where
      top : label_cmp (name y) l ≡ Greater
      top = ap (λ z. label_cmp (name z) l) (sym first) ∙ e

      go : (j : ℕ) (d : PlainFull) → 0 ≤ j → j < length (map view (y ∷ ys)) → label_cmp (full_label (get_or (map view (y ∷ ys)) j d)) l ≡ Greater
      go zero d from under = top
      go (suc j) d from under = above_each l (name y) (map view ys) top up.0 j d (omega (arith, under))

  -- there is none
  pub none_place : (l : PlainLabel) (xs : List X) → slice_get xs 0 ≡ None → IsPlaceOf l (map view xs) (Err 0)
  none_place l [] e = (omega arith, (λ j d under. absurd (omega (arith, under))), λ j d from under. absurd (omega (arith, under)))
  none_place l (x ∷ xs) e = cc
