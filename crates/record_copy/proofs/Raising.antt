-- What raising the numbers of a set goes along.
use Rattle.std.proofs.Common.{◌≡◌, ℕ, ◌+◌, ◌≤◌, ◌==◌, ◌||◌, true, false, true≢false, IsTrue, List, [], ◌∷◌, map, Result, Ok, Err, IfOk, refl, sym, ap, ◌∙◌, arith, ℤ, pos, ◌+ℤ◌, inl, inr}
use Rattle.std.specs.List.{AllByRecursion}
use Rattle.std.proofs.lemmas.Bool.{cases_lt}
use Rattle.std.proofs.lemmas.Bool.Decides.{nat_tests}
use Rattle.std.proofs.lemmas.Int.{ints}
use Rattle.version_set.specs.Members.{members, has, greatest, moved_pair, IsVersion}
use Rattle.version_set.specs.Pairs.{IsCanonical, last_of}
use Rattle.version_set.proofs.MembersLemmas.{members_ascend, not_below}
use Rattle.version_set.proofs.SetLemmas.{greatest-members}
use Rattle.record_parts.specs.declared.limits.TheConstants.{MOST_VERSIONS}
use Rattle.record_copy.specs.Raised.{raised}

-- by none
pub raised-none : (ps : List (ℕ × ℕ)) → raised 0 ps ≡ ps
raised-none [] = refl
raised-none (p ∷ ps) =
    let from : p.0 + 0 ≡ p.0 = omega arith in
    let to : p.1 + 0 ≡ p.1 = omega arith in
    λ i. (from i, to i) ∷ raised-none ps i

pub raised-moved : (by : ℕ) (ps : List (ℕ × ℕ)) → map (moved_pair (pos by)) ps ≡ raised by ps
raised-moved by [] = refl
raised-moved by (p ∷ ps) = ap (λ qs. (p.0 + by, p.1 + by) ∷ qs) (raised-moved by ps)

-- ---- each number may be raised

none-there : (n : ℕ) → has [] n ≡ true → ⊥
none-there n e = true≢false (sym e)

up-to_greatest : (ns : List ℕ) (n : ℕ) → IsTrue (has ns n) → n ≤ greatest ns
up-to_greatest [] n h = absurd (none-there n h)
up-to_greatest (m ∷ ns) n h = elim (m == n) as (λ b. (m == n) ≡ b → (b || has ns n) ≡ true → n ≤ greatest (m ∷ ns)) [
  | true ↦ λ e g. (let same : m ≡ n = grind (arith, nat_tests) in omega (arith, same))
  | false ↦ λ e g. (let rest = up-to_greatest ns n g in omega (arith, rest))
] refl h

from-one : (ps : List (ℕ × ℕ)) (n : ℕ) → IsCanonical ps → IsTrue (has (members ps) n) → 1 ≤ n
from-one ps n c h = elim (cases_lt n 1) [
  | inl lt ↦ absurd (true≢false (sym h ∙ not_below 1 (members ps) n (members_ascend 1 ps c) lt))
  | inr le ↦ le
]

last-few : (most : ℕ) (ps : List (ℕ × ℕ)) → AllByRecursion (λ (p : ℕ × ℕ). p.1 ≤ most) ps → last_of ps ≤ most
last-few most [] h = omega arith
last-few most (p ∷ []) h = h.0
last-few most (p ∷ q ∷ ps) h = last-few most (q ∷ ps) h.1

pub may-raise : (by : ℕ) (ps : List (ℕ × ℕ)) → IsCanonical ps → by ≤ MOST_VERSIONS → AllByRecursion (λ (p : ℕ × ℕ). p.1 ≤ MOST_VERSIONS) ps → (n : ℕ) → IsTrue (has (members ps) n) → IsVersion (pos n +ℤ pos by)
may-raise by ps c le few n h =
    let low = from-one ps n c h in
    let high = up-to_greatest (members ps) n h in
    let same = greatest-members 1 ps c in
    let last = last-few MOST_VERSIONS ps few in
    (omega (arith, ints, low), omega (arith, ints, high, le, same, last))

pub raised-of : {T E : Type 0} (pairs : T → List (ℕ × ℕ)) (r : Result T E) (z : ℤ) (by : ℕ) (ps : List (ℕ × ℕ)) → z ≡ pos by → IfOk r (λ s. pairs s ≡ map (moved_pair z) ps) → IfOk r (λ s. pairs s ≡ raised by ps)
raised-of pairs (Ok s) z by ps is h = h ∙ ap (λ (d : ℤ). map (moved_pair d) ps) is ∙ raised-moved by ps
raised-of pairs (Err e) z by ps is h = tt
