-- Lists that ascend strictly, and elements put in their places.
use Rattle.std.proofs.Common.{◌≡◌, ℕ, ◌+◌, ◌<◌, false, List, [], ◌∷◌, length, fold, get_or, refl, ap, ◌∙◌, arith}
use Rattle.std.proofs.lemmas.Map.Keys.{Less-from_sorted}
use Rattle.std.specs.BTreeSet.{replace_key}
use Rattle.std.specs.Cmp.{IsTotalOrder}
use Rattle.std.specs.List.{AllByRecursion}
use Rattle.std.specs.List.Sorted.{IsStrictlySortedBy}
use Rattle.std.specs.Ordering.{match_ordering, ordering_reverse, is_lt}
use Rattle.std.specs.declared.cmp.Ordering.{Ordering}
use Rattle.std.specs.declared.cmp.Ordering.TheVariants.{Less, Equal, Greater}

-- the three answers of a comparison
pub by_order : {P : Type 0} (o : Ordering) → (o ≡ Less → P) → (o ≡ Equal → P) → (o ≡ Greater → P) → P
by_order Less f g h = f refl
by_order Equal f g h = g refl
by_order Greater f g h = h refl

module _ {X : Type 0} {R : X → X → Ordering} (o : IsTotalOrder R) where
  pub all-put : (P : X → Type 0) (xs : List X) (k : X) → P k → AllByRecursion P xs → AllByRecursion P (replace_key R xs k)
  all-put P [] k one all = (one, all)
  all-put P (x ∷ xs) k one all = at (R k x) (all-put P xs k one all.1)
    where
      at : (r : Ordering) → AllByRecursion P (replace_key R xs k) → AllByRecursion P (match_ordering r (k ∷ x ∷ xs) (k ∷ xs) (x ∷ replace_key R xs k))
      at Less rest = (one, all)
      at Equal rest = (one, all.1)
      at Greater rest = (all.0, rest)

  above_all : (k x : X) (xs : List X) → R k x ≡ Less → AllByRecursion (λ y. R x y ≡ Less) xs → AllByRecursion (λ y. R k y ≡ Less) xs
  above_all k x [] e all = all
  above_all k x (y ∷ ys) e all = (o.trans k x y e all.0, above_all k x ys e all.1)

  same_all : (k x : X) (xs : List X) → R k x ≡ Equal → AllByRecursion (λ y. R x y ≡ Less) xs → AllByRecursion (λ y. R k y ≡ Less) xs
  same_all k x [] e all = all
  same_all k x (y ∷ ys) e all = (o.congr k x y e ∙ all.0, same_all k x ys e all.1)

  pub back : (x y : X) → R x y ≡ Greater → R y x ≡ Less
  back x y e = o.antisymm y x ∙ ap ordering_reverse e

  -- a list that ascends still does with one more in its place
  pub sorted-put : (xs : List X) (k : X) → IsStrictlySortedBy R xs → IsStrictlySortedBy R (replace_key R xs k)
  unfolding IsStrictlySortedBy
  sorted-put [] k s = (s, s)
  sorted-put (x ∷ xs) k s = at (R k x) refl (sorted-put xs k s.1)
    where
      at : (r : Ordering) → R k x ≡ r → IsStrictlySortedBy R (replace_key R xs k) → IsStrictlySortedBy R (match_ordering r (k ∷ x ∷ xs) (k ∷ xs) (x ∷ replace_key R xs k))
      at Less e rest = ((e, above_all k x xs e s.0), s)
      at Equal e rest = (same_all k x xs e s.0, s.1)
      at Greater e rest = (all-put (λ y. R x y ≡ Less) xs k (back k x e) s.0, rest)

  pub sorted-put_all : (old xs : List X) → IsStrictlySortedBy R old → IsStrictlySortedBy R (fold (replace_key R) old xs)
  sorted-put_all old [] s = s
  sorted-put_all old (x ∷ xs) s = sorted-put_all (replace_key R old x) xs (sorted-put old x s)

  -- so no element is less than the one before it
  pub not_less : (xs : List X) → IsStrictlySortedBy R xs → (k : ℕ) (d : X) → k + 1 < length xs → is_lt (R (get_or xs (k + 1) d) (get_or xs k d)) ≡ false
  not_less xs s k d h = ap is_lt (o.antisymm (get_or xs (k + 1) d) (get_or xs k d) ∙ ap ordering_reverse (Less-from_sorted R xs k (k + 1) d s (omega arith) h))

pub sorted-nil : {X : Type 0} (R : X → X → Ordering) → IsStrictlySortedBy R []
unfolding IsStrictlySortedBy
sorted-nil R = tt
