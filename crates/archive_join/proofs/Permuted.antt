-- Lists with the same elements in another order.
use Rattle.std.proofs.Common.{◌≡◌, ◌≢◌, ℕ, zero, suc, ◌+◌, ◌≤◌, ◌<◌, ◌==◌, ◌↔◌, Bool, true, false, IsTrue, List, [], ◌∷◌, map, length, get_or, refl, ap, sym, subst, subst₂, inl, inr, arith, eqb-true, eq-eqb}
use Rattle.std.proofs.lemmas.Cmp.{nat_cmp_total}
use Rattle.std.proofs.lemmas.List.{get_or-map, length-map}
use Rattle.std.proofs.lemmas.List.Sorted.{IsPermutation-sym, IsPermutation-map}
use Rattle.std.specs.List.{AllByRecursion, enumerate_from}
use Rattle.std.specs.List.Sorted.{IsPermutation, IsNonDecreasingBy, IsSortedBy}
use Rattle.std.specs.Ordering.{nat_cmp}
use Rattle.std.specs.declared.cmp.Ordering.TheVariants.{Less}
use Rattle.keyed_tree.specs.Lists.{Ascends, Has}
use Rattle.jsonml_tree.proofs.Lists.{differ_permuted, has_permuted, same_items}
use Rattle.archive_tree.specs.Stands.{AllDiffer}
use Rattle.record_copy.proofs.Permuted.{all_at, less}

-- ---- what a permutation has

-- ---- indices

pub get_has : {X : Type 0} (xs : List X) (i : ℕ) (d : X) → i < length xs → Has (get_or xs i d) xs
get_has [] i d low = absurd (omega arith)
get_has (x ∷ xs) zero d low = inl refl
get_has (x ∷ xs) (suc i) d low = inr (get_has xs i d (omega arith))

pub map-map : {X Y Z : Type 0} (g : Y → Z) (f : X → Y) (xs : List X) → map g (map f xs) ≡ map (λ x. g (f x)) xs
map-map g f [] = refl
map-map g f (x ∷ xs) = ap (λ z. g (f x) ∷ z) (map-map g f xs)

-- elements in the order of their keys, and the keys in order
pub keys_sorted : {X K : Type 0} (f : X → K) (lt : K → K → Bool) (xs : List X) → IsSortedBy (λ a b. lt (f a) (f b)) xs → IsSortedBy lt (map f xs)
keys_sorted f lt [] h k d low high = absurd (omega arith)
keys_sorted f lt (x ∷ xs) h k d low high =
    let within : k + 1 < length (x ∷ xs) = simp length-map at high in
    subst₂ (λ a b. lt a b ≡ false) (sym (get_or-map f (x ∷ xs) (k + 1) x d within)) (sym (get_or-map f (x ∷ xs) k x d (omega arith))) (h k x low within)

pub sorted_keys : {X K : Type 0} (f : X → K) (lt : K → K → Bool) (xs : List X) → IsSortedBy lt (map f xs) → IsSortedBy (λ a b. lt (f a) (f b)) xs
sorted_keys f lt xs h k d low high =
    subst₂ (λ a b. lt a b ≡ false) (get_or-map f xs (k + 1) d (f d) high) (get_or-map f xs k d (f d) (omega arith)) (h k (f d) low (simp length-map high))

-- ---- back in their places

all_less : {X : Type 0} (f : X → ℕ) (m : ℕ) (xs : List X) → AllByRecursion (λ x. m ≤ f x) xs → AllByRecursion (λ n. m ≢ n) (map f xs) → AllByRecursion (λ n. nat_cmp m n ≡ Less) (map f xs)
all_less f m [] h d = tt
all_less f m (x ∷ xs) h d = (less m (f x) h.0 d.0, all_less f m xs h.1 d.1)

-- numbers that do not fall and differ ascend
rises : {X : Type 0} (f : X → ℕ) (xs : List X) → IsNonDecreasingBy f xs → AllDiffer (map f xs) → Ascends nat_cmp (map f xs)
rises f [] up d = tt
rises f (x ∷ xs) up d = (
  all_less f (f x) xs (all_at (λ y. f x ≤ f y) xs (λ k e low. up 0 (suc k) e (omega arith) (omega arith))) d.0,
  rises f xs (λ k m e le low. up (suc k) (suc m) e (omega arith) (omega arith)) d.1,
)

abbrev place : {X : Type 0} → ℕ × X → ℕ
place w = w.0

later_places : {X : Type 0} (P : ℕ → Type 0) (m : ℕ) → ((n : ℕ) → m < n → P n) → (k : ℕ) (xs : List X) → m < k → AllByRecursion P (map place (enumerate_from k xs))
later_places P m h k [] low = tt
later_places P m h k (x ∷ xs) low = (h k low, later_places P m h (k + 1) xs (omega arith))

apart : (m n : ℕ) → m < n → m ≢ n
apart m n h e = absurd (omega arith)

places_differ : {X : Type 0} (k : ℕ) (xs : List X) → AllDiffer (map place (enumerate_from k xs))
places_differ k [] = tt
places_differ k (x ∷ xs) = (later_places (λ n. k ≢ n) k (apart k) (k + 1) xs (omega arith), places_differ (k + 1) xs)

places_rise : {X : Type 0} (k : ℕ) (xs : List X) → Ascends nat_cmp (map place (enumerate_from k xs))
places_rise k [] = tt
places_rise k (x ∷ xs) = (later_places (λ n. nat_cmp k n ≡ Less) k (λ n h. less k n (omega arith) (apart k n h)) (k + 1) xs (omega arith), places_rise (k + 1) xs)

same_numbers : (m n : ℕ) → IsTrue (m == n) ↔ (m ≡ n)
same_numbers m n = (eqb-true m n, eq-eqb m n)

-- what is in the order of its places stands as it came
pub in_place : {X Y : Type 0} (f : Y → ℕ × X) (xs : List X) (ys : List Y) → IsPermutation (enumerate_from 0 xs) (map f ys) → IsNonDecreasingBy (λ y. place (f y)) ys → map f ys ≡ enumerate_from 0 xs
in_place {X} f xs ys p up =
    let all = enumerate_from 0 xs in
    let same = map-map place f ys in
    let differ = differ_permuted (λ m n. m == n) same_numbers (map place all) (map place (map f ys)) (IsPermutation-map place all (map f ys) p) (places_differ 0 xs) in
    let rise = rises (λ y. place (f y)) ys up (subst AllDiffer same differ) in
    same_items place nat_cmp_total (map f ys) all (subst (Ascends nat_cmp) (sym same) rise) (places_rise 0 xs)
    (has_permuted (map f ys) all (IsPermutation-sym all (map f ys) p)) (has_permuted all (map f ys) p)

pub items_placed : {X : Type 0} (k : ℕ) (xs : List X) → map (λ (w : ℕ × X). w.1) (enumerate_from k xs) ≡ xs
items_placed k [] = refl
items_placed k (x ∷ xs) = ap (λ z. x ∷ z) (items_placed (k + 1) xs)
