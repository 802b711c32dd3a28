-- The body of a version among the alternatives of a leaf.
use Rattle.std.proofs.Common.{◌≡◌, ◌≢◌, ℕ, zero, suc, ◌+◌, ◌-◌, ◌<◌, ◌≤◌, true, false, true≢false, cond, List, [], ◌∷◌, ◌++◌, map, length, take, drop, get_or, set, Option, Some, None, refl, ap, sym, subst, ◌∙◌, arith}
use Rattle.std.proofs.lemmas.List.{length-map, map-set, set_split}
use Rattle.std.specs.List.{AllByRecursion}
use Rattle.std.specs.Ordering.{is_eq}
use Rattle.keyed_tree.specs.Data.{PlainKey}
use Rattle.keyed_tree.specs.Laws.{key_cmp-is_eq}
use Rattle.keyed_tree.specs.Order.{key_cmp}
use Rattle.jsonml_tree.specs.Lists.{AllDiffer}
use Rattle.new_archive.specs.Full.{FullAlt, full_bodies}
use Rattle.new_archive.specs.Added.{alone, added_alts}
use Rattle.new_archive.specs.Place.{IsAltOf, changed, place_from}
use Rattle.new_archive.specs.Ready.{IsBelow}

other : (k b : PlainKey) → k ≢ b → is_eq (key_cmp k b) ≡ false
other k b d = elim (is_eq (key_cmp k b)) as (λ t. is_eq (key_cmp k b) ≡ t → t ≡ false) [ true ↦ λ e. absurd (d ((key_cmp-is_eq k b).0 e)) | false ↦ λ e. refl ] refl

body_at : (P : PlainKey → Type 0) (xs : List FullAlt) (i : ℕ) (d : FullAlt) → AllByRecursion P (full_bodies xs) → i < length xs → P (get_or xs i d).body
body_at P [] i d h low = absurd (omega arith)
body_at P (x ∷ xs) zero d h low = h.0
body_at P (x ∷ xs) (suc i) d h low = body_at P xs i d h.1 (omega arith)

pub below_at : (n : ℕ) (xs : List FullAlt) (i : ℕ) (d : FullAlt) → AllByRecursion (λ (x : FullAlt). IsBelow n x.numbers) xs → i < length xs → IsBelow n (get_or xs i d).numbers
below_at n [] i d h low = absurd (omega arith)
below_at n (x ∷ xs) zero d h low = h.0
below_at n (x ∷ xs) (suc i) d h low = below_at n xs i d h.1 (omega arith)

pub alt_met : (n : ℕ) (b : PlainKey) (xs : List FullAlt) (i : ℕ) (d : FullAlt) → AllDiffer (full_bodies xs) → i < length xs → (get_or xs i d).body ≡ b → added_alts n b xs ≡ take i xs ++ changed n (get_or xs i d) ∷ drop (i + 1) xs
alt_met n b [] i d differ low e = absurd (omega arith)
alt_met n b (x ∷ xs) zero d differ low e = (let same = (key_cmp-is_eq x.body b).1 e in rw same refl)
alt_met n b (x ∷ xs) (suc i) d differ low e =
    let apart : x.body ≢ b = subst (λ z. x.body ≢ z) e (body_at (λ y. x.body ≢ y) xs i d differ.0 (omega arith)) in
    let none = other x.body b apart in
    let place : suc i + 1 ≡ suc (i + 1) = omega arith in
    rw place (rw none (ap (λ z. x ∷ z) (alt_met n b xs i d differ.1 (omega arith) e)))

pub alt_new : (n : ℕ) (b : PlainKey) (xs : List FullAlt) → AllByRecursion (λ (x : FullAlt). x.body ≢ b) xs → added_alts n b xs ≡ xs ++ record { numbers = alone n; body = b } ∷ []
alt_new n b [] h = refl
alt_new n b (x ∷ xs) h = (let none = other x.body b h.0 in rw none (ap (λ z. x ∷ z) (alt_new n b xs h.1)))

-- ---- a scan from the front

-- what a scan from a number tells of what is left
abbrev FoundFrom : PlainKey → ℕ → List FullAlt → Option ℕ → Type 0
FoundFrom b i xs None = AllByRecursion (λ (x : FullAlt). x.body ≢ b) xs
FoundFrom b i xs (Some j) = (i ≤ j) × (j - i < length xs) × ((d : FullAlt) → (get_or xs (j - i) d).body ≡ b)

found_later : (b : PlainKey) (i : ℕ) (x : FullAlt) (xs : List FullAlt) (o : Option ℕ) → is_eq (key_cmp x.body b) ≡ false → FoundFrom b (i + 1) xs o → FoundFrom b i (x ∷ xs) o
found_later b i x xs None e h = ((λ d. true≢false (sym ((key_cmp-is_eq x.body b).1 d) ∙ e)), h)
found_later b i x xs (Some j) e h =
    let from = h.0 in
    let low = h.1 in
    let one : j - i ≡ suc (j - (i + 1)) = omega arith in
    (omega arith, omega arith, λ d. rw one (h.2 d))

found_from : (b : PlainKey) (i : ℕ) (xs : List FullAlt) → FoundFrom b i xs (place_from b i xs)
found_from b i [] = tt
found_from b i (x ∷ xs) =
    let rest = found_from b (i + 1) xs in
    elim (is_eq (key_cmp x.body b)) as (λ t. is_eq (key_cmp x.body b) ≡ t → FoundFrom b i (x ∷ xs) (cond t (Some i) (place_from b (i + 1) xs))) [
      | true ↦ λ e. (let none : i - i ≡ 0 = omega arith in (omega arith, omega arith, λ d. rw none ((key_cmp-is_eq x.body b).0 e)))
      | false ↦ λ e. found_later b i x xs (place_from b (i + 1) xs) e rest
    ] refl

as_place : (b : PlainKey) (xs : List FullAlt) (o : Option ℕ) → FoundFrom b 0 xs o → IsAltOf b xs o
as_place b xs None h = h
as_place b xs (Some j) h = (let same : j - 0 ≡ j = omega arith in let low = h.1 in (omega arith, λ d. subst (λ z. (get_or xs z d).body ≡ b) same (h.2 d)))

pub alt_found : (b : PlainKey) (xs : List FullAlt) (o : Option ℕ) → o ≡ place_from b 0 xs → IsAltOf b xs o
alt_found b xs o e = as_place b xs o (subst (λ z. FoundFrom b 0 xs z) (sym e) (found_from b 0 xs))

-- ---- lists that are changed at a place

pub set_row : {X Y : Type 0} (view : X → Y) (xs : List X) (i : ℕ) (y : X) (z : Y) → i < length xs → view y ≡ z → map view (set xs i y) ≡ take i (map view xs) ++ z ∷ drop (i + 1) (map view xs)
set_row view xs i y z low e =
    let many : length (map view xs) ≡ length xs = length-map xs view in
    let next : suc i ≡ i + 1 = omega arith in
    map-set view xs i y ∙ set_split (map view xs) i (view y) (omega arith) ∙ (λ j. take i (map view xs) ++ e j ∷ drop (next j) (map view xs))
