-- Alternatives that a sort has put into order.
use Rattle.std.proofs.Common.{◌≡◌, ◌≢◌, ℕ, suc, ◌≤◌, ◌<◌, ◌==◌, List, [], ◌∷◌, map, refl, ap, sym, subst, arith, eqb-true, eq-eqb}
use Rattle.std.proofs.lemmas.Cmp.{nat_cmp_total}
use Rattle.std.proofs.lemmas.List.Sorted.{IsPermutation-sym, IsPermutation-map}
use Rattle.std.specs.List.{AllByRecursion}
use Rattle.std.specs.List.Sorted.{IsPermutation, IsNonDecreasingBy}
use Rattle.std.specs.Ordering.{nat_cmp}
use Rattle.std.specs.declared.cmp.Ordering.TheVariants.{Less}
use Rattle.version_set.specs.Members.{members}
use Rattle.keyed_tree.specs.Lists.{Ascends}
use Rattle.jsonml_tree.proofs.Lists.{all_permuted, differ_permuted, has_permuted, same_items}
use Rattle.archive_tree.specs.Data.{PlainAlt}
use Rattle.archive_tree.specs.Stands.{AllDiffer, first_num}
use Rattle.archive_cut.specs.Held.{held_view, KnowsFirst, IsShortAlt, InOrder}
use Rattle.archive_cut.specs.Sliced.{by_first}
use Rattle.archive_cut.specs.declared.held.Held.{Held}
use Rattle.archive_cut.proofs.LeftAlts.{has_by_first, by_first_has, by_first_ascends}
use Rattle.record_copy.proofs.Permuted.{all_at, less}

-- ---- numbers that do not fall and differ ascend

module _ {X : Type 0} (f : X → ℕ) where
  abbrev Ups : List X → Type 0
  Ups [] = Unit {0}
  Ups (x ∷ xs) = AllByRecursion (λ y. f x ≤ f y) xs × Ups xs

  ups-of : (xs : List X) → IsNonDecreasingBy f xs → Ups xs
  ups-of [] h = tt
  ups-of (x ∷ xs) h = (
    all_at (λ y. f x ≤ f y) xs (λ k d low. h 0 (suc k) d (omega arith) (omega arith)),
    ups-of xs (λ k m d le low. h (suc k) (suc m) d (omega arith) (omega arith)),
  )

  ups-same : (g : X → ℕ) (xs : List X) → AllByRecursion (λ x. f x ≡ g x) xs → Ups xs → AllByRecursion (λ x. f x ≡ g x) xs
  ups-same g xs h u = h

all_less : {X : Type 0} (f g : X → ℕ) (m : ℕ) (xs : List X) → AllByRecursion (λ x. f x ≡ g x) xs → AllByRecursion (λ y. m ≤ f y) xs → AllByRecursion (λ n. m ≢ n) (map g xs) → AllByRecursion (λ n. nat_cmp m n ≡ Less) (map g xs)
all_less f g m [] s h d = tt
all_less f g m (x ∷ xs) s h d = (less m (g x) (subst (λ n. m ≤ n) s.0 h.0) d.0, all_less f g m xs s.1 h.1 d.1)

ups-ascend : {X : Type 0} (f g : X → ℕ) (xs : List X) → AllByRecursion (λ x. f x ≡ g x) xs → Ups f xs → AllDiffer (map g xs) → Ascends nat_cmp (map g xs)
ups-ascend f g [] s u d = tt
ups-ascend f g (x ∷ xs) s u d = (
  subst (λ m. AllByRecursion (λ n. nat_cmp m n ≡ Less) (map g xs)) s.0 (all_less f g (f x) xs s.1 u.0 (subst (λ m. AllByRecursion (λ n. m ≢ n) (map g xs)) (sym s.0) d.0)),
  ups-ascend f g xs s.1 u.1 d.1,
)

map-map : (g : PlainAlt → ℕ) (hs : List Held) → map (λ h. g (held_view h)) hs ≡ map g (map held_view hs)
map-map g [] = refl
map-map g (h ∷ hs) = ap (λ z. g (held_view h) ∷ z) (map-map g hs)

-- they are in the order of their first numbers
pub in-order : (old new : List Held) → IsPermutation old new → IsNonDecreasingBy (λ h. h.first) new → InOrder old new
in-order old new p up = record {
  order = λ now known differ. (
      let g : PlainAlt → ℕ = first_num (members now) in
      let views = IsPermutation-map held_view old new p in
      let back = IsPermutation-sym (map held_view old) (map held_view new) views in
      let knows = all_permuted (KnowsFirst now) old new p known in
      let apart : AllDiffer (map g (map held_view new)) = differ_permuted (λ m n. m == n) (λ m n. (eqb-true m n, eq-eqb m n)) (map g (map held_view old)) (map g (map held_view new)) (IsPermutation-map g (map held_view old) (map held_view new) views) differ in
      let rises : Ascends nat_cmp (map g (map held_view new)) = subst (Ascends nat_cmp) (map-map g new) (ups-ascend (λ (h : Held). h.first) (λ h. g (held_view h)) new knows (ups-of (λ (h : Held). h.first) new up) (subst AllDiffer (sym (map-map g new)) apart)) in
      same_items g nat_cmp_total (map held_view new) (by_first (members now) (map held_view old)) rises (by_first_ascends (members now) (map held_view old) differ)
      (λ z m. has_by_first (members now) z (map held_view old) (has_permuted (map held_view new) (map held_view old) back z m))
      (λ z m. has_permuted (map held_view old) (map held_view new) views z (by_first_has (members now) z (map held_view old) m)));
  short = λ b i j h. all_permuted (IsShortAlt b i j) (map held_view old) (map held_view new) (IsPermutation-map held_view old new p) h;
}
