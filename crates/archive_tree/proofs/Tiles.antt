-- Intervals that follow one upon another through a set.
use Rattle.std.proofs.Common.{◌≡◌, ◌+◌, ◌<◌, ◌≤◌, ◌==◌, ℕ, suc, true, false, cond, ◌&&◌, ◌||◌, List, [], ◌∷◌, ◌++◌, map, length, get_or, drop, max, IsTrue, refl, ap, sym, subst, ◌∙◌, arith, inl, inr, true≢false, leb, leb-true}
use Rattle.std.specs.Prelude.{nat_le}
use Rattle.std.specs.List.{flat_map}
use Rattle.std.specs.List.Sorted.{IsPermutation, IsNonDecreasingBy}
use Rattle.std.proofs.lemmas.Bool.{eqb-true, eq-eqb, cases_lt, cases_eq}
use Rattle.std.proofs.lemmas.Bool.Decides.{nat_tests}
use Rattle.std.proofs.lemmas.List.{drop_more, drop_all}
use Rattle.std.proofs.lemmas.List.Recursion.{is_sum_by}
use Rattle.std.proofs.lemmas.List.Sorted.{sum_by-IsPermutation}
use Rattle.version_set.specs.Pairs.{IsFrom, IsCanonical}
use Rattle.version_set.specs.Members.{members, has}
use Rattle.version_set.proofs.MembersLemmas.{covers, has-members, not_below, members_ascend}
use Rattle.keyed_tree.proofs.Kids.{both}
use Rattle.archive_tree.specs.PartsTest.{sets_with, are_parts, do_tile}
use Rattle.archive_tree.proofs.Counts.{and, one_if, parts_count, count_parts, parts_tell}
use Rattle.archive_tree.proofs.Tells.{bools}

-- ---- in how many intervals a number is

abbrev spot : ℕ → ℕ → ℕ → ℕ
spot a b n = one_if (leb a n && leb n b)

abbrev covering : ℕ → List (ℕ × ℕ) → ℕ
covering n [] = 0
covering n (p ∷ ps) = spot p.0 p.1 n + covering n ps

-- how many of the intervals have no number
abbrev empties : List (ℕ × ℕ) → ℕ
empties [] = 0
empties (p ∷ ps) = one_if (leb (p.1 + 1) p.0) + empties ps

spot_in : (a b n : ℕ) → a ≤ n → n ≤ b → spot a b n ≡ 1
spot_in a b n h g = (let e : (leb a n && leb n b) ≡ true = grind (arith, nat_tests) in rw e refl)

spot_below : (a b n : ℕ) → n < a → spot a b n ≡ 0
spot_below a b n h = (let e : (leb a n && leb n b) ≡ false = grind (arith, nat_tests) in rw e refl)

spot_above : (a b n : ℕ) → b < n → spot a b n ≡ 0
spot_above a b n h = (let e : (leb a n && leb n b) ≡ false = grind (arith, nat_tests) in rw e refl)

covering-append : (n : ℕ) (ps qs : List (ℕ × ℕ)) → covering n (ps ++ qs) ≡ covering n ps + covering n qs
covering-append n [] qs = omega arith
covering-append n (p ∷ ps) qs = (let rest = covering-append n ps qs in omega (arith, rest))

empties-append : (ps qs : List (ℕ × ℕ)) → empties (ps ++ qs) ≡ empties ps + empties qs
empties-append [] qs = omega arith
empties-append (p ∷ ps) qs = (let rest = empties-append ps qs in omega (arith, rest))

covering-moved : (n : ℕ) (ps qs : List (ℕ × ℕ)) → IsPermutation ps qs → covering n qs ≡ covering n ps
covering-moved n ps qs h =
    let f : ℕ × ℕ → ℕ = λ p. spot p.0 p.1 n in
    let is = is_sum_by (covering n) f refl (λ p rest. refl) in
    is qs ∙ sum_by-IsPermutation f ps qs h ∙ sym (is ps)

empties-moved : (ps qs : List (ℕ × ℕ)) → IsPermutation ps qs → empties qs ≡ empties ps
empties-moved ps qs h =
    let f : ℕ × ℕ → ℕ = λ p. one_if (leb (p.1 + 1) p.0) in
    let is = is_sum_by empties f refl (λ p rest. refl) in
    is qs ∙ sum_by-IsPermutation f ps qs h ∙ sym (is ps)

covers_below : (low : ℕ) (ps : List (ℕ × ℕ)) (n : ℕ) → IsFrom low ps → n < low → covers ps n ≡ false
covers_below low ps n c lt = sym (has-members ps n) ∙ not_below low (members ps) n (members_ascend low ps c) lt

covering-covers : (low : ℕ) (ps : List (ℕ × ℕ)) (n : ℕ) → IsFrom low ps → covering n ps ≡ one_if (covers ps n)
covering-covers low [] n c = refl
covering-covers low (p ∷ ps) n c =
    let rest = covering-covers (p.1 + 2) ps n c.2 in
    elim (leb p.0 n && leb n p.1) as (λ b. (leb p.0 n && leb n p.1) ≡ b → one_if b + covering n ps ≡ one_if (b || covers ps n)) [
      | true ↦ λ e. (
          let end : n ≤ p.1 = last p.0 p.1 e in
          let none = covers_below (p.1 + 2) ps n c.2 (omega (arith, end)) in
          let zeros : covering n ps ≡ 0 = rest ∙ ap one_if none in
          omega (arith, zeros))
      | false ↦ λ e. omega (arith, rest)
    ] refl
  where
    last : (a b : ℕ) → (leb a n && leb n b) ≡ true → n ≤ b
    last a b e = grind (arith, nat_tests)

-- a set has each of its numbers in one interval
covering-set : (low : ℕ) (ps : List (ℕ × ℕ)) (n : ℕ) → IsFrom low ps → covering n ps ≡ one_if (has (members ps) n)
covering-set low ps n c = covering-covers low ps n c ∙ ap one_if (sym (has-members ps n))

covering-below : (low : ℕ) (ps : List (ℕ × ℕ)) (n : ℕ) → IsFrom low ps → n < low → covering n ps ≡ 0
covering-below low ps n c lt = covering-covers low ps n c ∙ ap one_if (covers_below low ps n c lt)

empties-set : (low : ℕ) (ps : List (ℕ × ℕ)) → IsFrom low ps → empties ps ≡ 0
empties-set low [] c = refl
empties-set low (p ∷ ps) c =
    let rest = empties-set (p.1 + 2) ps c.2 in
    let order = c.1 in
    let e : leb (p.1 + 1) p.0 ≡ false = grind (arith, nat_tests) in
    rw e (omega (arith, rest))

module _ {X : Type 0} (f : X → List (ℕ × ℕ)) (canonical : (x : X) → IsCanonical (f x)) where
  covering-sets : (xs : List X) (n : ℕ) → covering n (flat_map f xs) ≡ sets_with n (map (λ x. members (f x)) xs)
  covering-sets [] n = refl
  covering-sets (x ∷ xs) n =
      let first = covering-set 1 (f x) n (canonical x) in
      let rest = covering-sets xs n in
      let all = covering-append n (f x) (flat_map f xs) in
      omega (arith, first, rest, all)

  empties-sets : (xs : List X) → empties (flat_map f xs) ≡ 0
  empties-sets [] = refl
  empties-sets (x ∷ xs) =
      let first = empties-set 1 (f x) (canonical x) in
      let rest = empties-sets xs in
      let all = empties-append (f x) (flat_map f xs) in
      omega (arith, first, rest, all)

-- ---- a walk along ascending intervals

-- the intervals from low on
abbrev cut : ℕ → List (ℕ × ℕ) → List (ℕ × ℕ)
cut low [] = []
cut low (g ∷ gs) = (max low g.0, g.1) ∷ gs

covering-uncut : (n : ℕ) (gs : List (ℕ × ℕ)) → covering n (cut 0 gs) ≡ covering n gs
covering-uncut n [] = refl
covering-uncut n (g ∷ gs) = (let e : max 0 g.0 ≡ g.0 = omega arith in ap (λ a. spot a g.1 n + covering n gs) e)

from_uncut : (low : ℕ) (gs : List (ℕ × ℕ)) → IsFrom low gs → IsFrom low (cut 0 gs)
from_uncut low [] c = tt
from_uncut low (g ∷ gs) c = (omega (arith, c.0), omega (arith, c.1), c.2)

some_spot : (p : ℕ × ℕ) (ps : List (ℕ × ℕ)) → empties (p ∷ ps) ≡ 0 → p.0 ≤ p.1
some_spot p ps h =
    elim (cases_lt p.1 p.0) [
      | inl lt ↦ (let e : leb (p.1 + 1) p.0 ≡ true = le-leb (p.1 + 1) p.0 (omega (arith, lt)) in let more : 1 + empties ps ≡ 0 = subst (λ b. one_if b + empties ps ≡ 0) e h in absurd (omega (arith, more)))
      | inr le ↦ le
    ]
  where
    le-leb : (m n : ℕ) → m ≤ n → leb m n ≡ true
    le-leb m n h = grind (arith, nat_tests)

-- an interval in two parts
spots : (a b c g n : ℕ) → a ≤ b → c ≤ a → b < g → spot a b n + spot (max (b + 1) c) g n ≡ spot a g n
spots a b c g n order begin end =
    elim (cases_lt n a) [
      | inl lt ↦ (let x = spot_below a b n lt in let y = spot_below (max (b + 1) c) g n (omega arith) in let z = spot_below a g n lt in omega (arith, x, y, z))
      | inr from ↦ elim (cases_lt b n) [
        | inl past ↦ elim (cases_lt g n) [
          | inl over ↦ (let x = spot_above a b n past in let y = spot_above (max (b + 1) c) g n over in let z = spot_above a g n over in omega (arith, x, y, z))
          | inr to ↦ (let x = spot_above a b n past in let y = spot_in (max (b + 1) c) g n (omega arith) to in let z = spot_in a g n from to in omega (arith, x, y, z))
        ]
        | inr to ↦ (let x = spot_in a b n from to in let y = spot_below (max (b + 1) c) g n (omega arith) in let z = spot_in a g n from (omega arith) in omega (arith, x, y, z))
      ]
    ]

tile_covers : (low : ℕ) (gs ps : List (ℕ × ℕ)) → empties ps ≡ 0 → IsTrue (do_tile low gs ps) → (n : ℕ) → covering n ps ≡ covering n (cut low gs)
tile_covers low [] [] o h n = refl
tile_covers low (g ∷ gs) [] o h n = absurd (true≢false (sym h))
tile_covers low [] (p ∷ ps) o h n = absurd (true≢false (sym h))
tile_covers low (g ∷ gs) (p ∷ ps) o h n =
    let two = both (p.0 == max low g.0 && nat_le p.1 g.1) (cond (p.1 == g.1) (do_tile 0 gs ps) (do_tile (p.1 + 1) (g ∷ gs) ps)) h in
    let one = both (p.0 == max low g.0) (nat_le p.1 g.1) two.0 in
    let first : p.0 ≡ max low g.0 = eqb-true p.0 (max low g.0) one.0 in
    let last : p.1 ≤ g.1 = leb-true p.1 g.1 one.1 in
    let order = some_spot p ps o in
    let none : empties ps ≡ 0 = omega (arith, o) in
    elim (cases_eq p.1 g.1) [
      | inl e ↦ (
          let t = eq-eqb p.1 g.1 e in
          let rest : IsTrue (do_tile 0 gs ps) = subst (λ b. IsTrue (cond b (do_tile 0 gs ps) (do_tile (p.1 + 1) (g ∷ gs) ps))) t two.1 in
          let later = tile_covers 0 gs ps none rest n ∙ covering-uncut n gs in
          (λ i. spot (first i) (e i) n + later i))
      | inr other ↦ (
          let t : (p.1 == g.1) ≡ false = grind (arith, nat_tests) in
          let rest : IsTrue (do_tile (p.1 + 1) (g ∷ gs) ps) = subst (λ b. IsTrue (cond b (do_tile 0 gs ps) (do_tile (p.1 + 1) (g ∷ gs) ps))) t two.1 in
          let later = tile_covers (p.1 + 1) (g ∷ gs) ps none rest n in
          let halves = spots p.0 p.1 g.0 g.1 n order (omega (arith, first)) (omega (arith, last, other)) in
          let same : spot p.0 g.1 n ≡ spot (max low g.0) g.1 n = ap (λ a. spot a g.1 n) first in
          omega (arith, later, halves, same))
    ]

-- no interval of an ascending list has a number below the first
covering-rising : (low n : ℕ) (ps : List (ℕ × ℕ)) → n < low → ((j : ℕ) → j < length ps → low ≤ (get_or ps j (0, 0)).0) → covering n ps ≡ 0
covering-rising low n [] lt h = refl
covering-rising low n (p ∷ ps) lt h =
    let head : low ≤ p.0 = h 0 (omega arith) in
    let first = spot_below p.0 p.1 n (omega (arith, lt, head)) in
    let rest = covering-rising low n ps lt (λ j less. h (suc j) (omega (arith, less))) in
    omega (arith, first, rest)

covers_tile : (base low : ℕ) (gs ps : List (ℕ × ℕ)) → IsFrom base (cut low gs) → empties ps ≡ 0 → IsNonDecreasingBy (λ (p : ℕ × ℕ). p.0) ps → ((n : ℕ) → covering n ps ≡ covering n (cut low gs)) → IsTrue (do_tile low gs ps)
covers_tile base low [] [] c o up h = refl
covers_tile base low (g ∷ gs) [] c o up h =
    let here = spot_in (max low g.0) g.1 (max low g.0) (omega arith) c.1 in
    let e = h (max low g.0) in
    absurd (omega (arith, here, e))
covers_tile base low [] (p ∷ ps) c o up h =
    let here = spot_in p.0 p.1 p.0 (omega arith) (some_spot p ps o) in
    let e = h p.0 in
    absurd (omega (arith, here, e))
covers_tile base low (g ∷ gs) (p ∷ ps) c o up h =
    let a = max low g.0 in
    let order = some_spot p ps o in
    let wide : a ≤ g.1 = c.1 in
    let none : empties ps ≡ 0 = omega (arith, o) in
    let rising : IsNonDecreasingBy (λ (q : ℕ × ℕ). q.0) ps = λ i j d le lt. up (suc i) (suc j) d (omega (arith, le)) (omega (arith, lt)) in
    let first : p.0 ≡ a = elim (cases_lt a p.0) [
      | inl lt ↦ absurd (
          let left = covering-rising p.0 a (p ∷ ps) lt (λ j less. up 0 j (0, 0) (omega arith) less) in
          let right = spot_in a g.1 a (omega arith) wide in
          let e = h a in
          omega (arith, left, right, e))
      | inr le ↦ elim (cases_lt p.0 a) [
        | inl lt ↦ absurd (
            let left = spot_in p.0 p.1 p.0 (omega arith) order in
            let right = spot_below a g.1 p.0 lt in
            let later = covering-below (g.1 + 2) gs p.0 c.2 (omega (arith, lt, wide)) in
            let e = h p.0 in
            omega (arith, left, right, later, e))
        | inr ge ↦ omega (arith, le, ge)
      ]
    ] in
    let last : p.1 ≤ g.1 = elim (cases_lt g.1 p.1) [
      | inl lt ↦ absurd (
          let left = spot_in p.0 p.1 (g.1 + 1) (omega (arith, first, wide)) (omega (arith, lt)) in
          let right = spot_above a g.1 (g.1 + 1) (omega arith) in
          let later = covering-below (g.1 + 2) gs (g.1 + 1) c.2 (omega arith) in
          let e = h (g.1 + 1) in
          omega (arith, left, right, later, e))
      | inr le ↦ le
    ] in
    and (p.0 == a && nat_le p.1 g.1) (cond (p.1 == g.1) (do_tile 0 gs ps) (do_tile (p.1 + 1) (g ∷ gs) ps))
    (and (p.0 == a) (nat_le p.1 g.1) (eq-eqb p.0 a first) (at_most p.1 g.1 last))
    (elim (cases_eq p.1 g.1) [
      | inl e ↦ (
          let t = eq-eqb p.1 g.1 e in
          let rest = covers_tile (g.1 + 2) 0 gs ps (from_uncut (g.1 + 2) gs c.2) none rising (λ n. (
          let all = h n in
          let same : spot p.0 p.1 n ≡ spot a g.1 n = (λ i. spot (first i) (e i) n) in
          let plain = covering-uncut n gs in
          omega (arith, all, same, plain))) in
          rw t rest)
      | inr other ↦ (
          let t : (p.1 == g.1) ≡ false = grind (arith, nat_tests) in
          let more : p.1 < g.1 = omega (arith, last, other) in
          let rest = covers_tile (p.1 + 1) (p.1 + 1) (g ∷ gs) ps (omega arith, omega (arith, more, wide), c.2) none rising (λ n. (
          let all = h n in
          let halves = spots p.0 p.1 g.0 g.1 n order (omega (arith, first)) more in
          let same : spot p.0 g.1 n ≡ spot a g.1 n = ap (λ z. spot z g.1 n) first in
          omega (arith, all, halves, same))) in
          rw t rest)
    ])
  where
    at_most : (m n : ℕ) → m ≤ n → IsTrue (nat_le m n)
    at_most m n h = grind (arith, nat_tests)

-- sorted intervals of some sets follow one upon another through a set exactly where the sets are its parts
pub tiles_tell : {X : Type 0} (f : X → List (ℕ × ℕ)) → ((x : X) → IsCanonical (f x)) → (whole : List (ℕ × ℕ)) (xs : List X) (all sorted : List (ℕ × ℕ)) → IsCanonical whole → all ≡ flat_map f xs → IsPermutation all sorted
    → IsNonDecreasingBy (λ (p : ℕ × ℕ). p.0) sorted → do_tile 0 whole sorted ≡ are_parts (members whole) (map (λ x. members (f x)) xs)
tiles_tell f cs whole xs all sorted c e moved up =
    let ns = members whole in
    let ss = map (λ x. members (f x)) xs in
    let none : empties sorted ≡ 0 = empties-moved all sorted moved ∙ ap empties e ∙ empties-sets f cs xs in
    let count : (n : ℕ) → covering n sorted ≡ sets_with n ss = λ n. covering-moved n all sorted moved ∙ ap (covering n) e ∙ covering-sets f cs xs n in
    let law = parts_tell ns ss in
    bools (do_tile 0 whole sorted) (are_parts ns ss)
    (λ h. law.1 (count_parts ns ss (λ n. sym (count n) ∙ tile_covers 0 whole sorted none h n ∙ covering-uncut n whole ∙ covering-set 1 whole n c)))
    (λ h. covers_tile 1 0 whole sorted (from_uncut 1 whole c) none up (λ n. count n ∙ parts_count ns ss (law.0 h) n ∙ sym (covering-set 1 whole n c) ∙ sym (covering-uncut n whole)))

-- ---- the walk itself

-- intervals are left, and no number for them
pub tile_stop : (low at i : ℕ) (whole pairs : List (ℕ × ℕ)) → length whole ≤ at → i < length pairs → do_tile low (drop at whole) (drop i pairs) ≡ false
tile_stop low at i whole pairs le lt = λ j. do_tile low (drop_all at whole le j) (drop_more pairs i (0, 0) lt j)

-- no interval is left
pub tile_end : (low at i : ℕ) (whole pairs : List (ℕ × ℕ)) → at ≤ length whole → length pairs ≤ i → (at == length whole) ≡ do_tile low (drop at whole) (drop i pairs)
tile_end low at i whole pairs le past =
    let none : drop i pairs ≡ [] = drop_all i pairs past in
    elim (cases_lt at (length whole)) [
      | inl lt ↦ (let e : (at == length whole) ≡ false = grind (arith, nat_tests) in e ∙ sym (λ j. do_tile low (drop_more whole at (0, 0) lt j) (none j)))
      | inr ge ↦ (let e : (at == length whole) ≡ true = eq-eqb at (length whole) (omega (arith, le, ge)) in e ∙ sym (λ j. do_tile low (drop_all at whole ge j) (none j)))
    ]
