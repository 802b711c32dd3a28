-- Numbers and their runs.
use Rattle.std.proofs.Common.{◌≡◌, ℕ, zero, suc, ◌+◌, ◌-◌, ◌<◌, ◌≤◌, true, false, List, [], ◌∷◌, length, get_or, refl, subst, arith, inl, inr}
use Rattle.std.proofs.lemmas.Bool.{cases_lt}
use Rattle.std.proofs.lemmas.Bool.Decides.{nat_tests}
use Rattle.std.specs.Prelude.{nat_le}
use Rattle.std.specs.List.{AllByRecursion}
use Rattle.version_set.specs.Members.{AscendsFrom}
use Rattle.keyed_tree.specs.Lists.{Has}
use Rattle.version_runs.specs.Runs.{AreStarts, run_of, start_of, end_of}

-- ---- starts that ascend from a number

pub from_first : (p : ℕ) (ps : List ℕ) (i : ℕ) → p ≤ i → run_of (p ∷ ps) i ≡ suc (run_of ps i)
from_first p ps i h = (let e : nat_le p i ≡ true = grind (arith, nat_tests) in rw e refl)

pub before_first : (low : ℕ) (ps : List ℕ) (i : ℕ) → AscendsFrom low ps → i < low → run_of ps i ≡ 0
before_first low [] i h lt = refl
before_first low (p ∷ ps) i h lt = (let first = h.0 in let e : nat_le p i ≡ false = grind (arith, nat_tests) in rw e refl)

-- a start that is not above the number
start_is_counted : (low n : ℕ) (ps : List ℕ) (i j : ℕ) → AscendsFrom low ps → i ≤ n → get_or ps j (n + 1) ≤ i → j < run_of ps i
start_is_counted low n [] i j h most le = absurd (omega (arith, most, le))
start_is_counted low n (p ∷ ps) i zero h most le = (let e = from_first p ps i le in omega (arith, e))
start_is_counted low n (p ∷ ps) i (suc j) h most le =
    let rest = start_is_counted (p + 1) n ps i j h.1 most le in
    elim (cases_lt i p) [
      | inl lt ↦ absurd (let none = before_first (p + 1) ps i h.1 (omega (arith, lt)) in omega (arith, none, rest))
      | inr from ↦ (let e = from_first p ps i from in omega (arith, e, rest))
    ]

-- and the other way round
counted_is_start : (low n : ℕ) (ps : List ℕ) (i j : ℕ) → AscendsFrom low ps → j < run_of ps i → get_or ps j (n + 1) ≤ i
counted_is_start low n [] i j h lt = absurd (omega (arith, lt))
counted_is_start low n (p ∷ ps) i zero h lt =
    elim (cases_lt i p) [
      | inl less ↦ absurd (let none = before_first p (p ∷ ps) i (omega arith, h.1) less in omega (arith, none, lt))
      | inr from ↦ from
    ]
counted_is_start low n (p ∷ ps) i (suc j) h lt =
    elim (cases_lt i p) [
      | inl less ↦ absurd (let none = before_first p (p ∷ ps) i (omega arith, h.1) less in omega (arith, none, lt))
      | inr from ↦ (let e = from_first p ps i from in counted_is_start (p + 1) n ps i j h.1 (omega (arith, e, lt)))
    ]

pub run_within : (ps : List ℕ) (i : ℕ) → run_of ps i ≤ length ps
run_within [] i = omega arith
run_within (p ∷ ps) i =
    let rest = run_within ps i in
    elim (cases_lt i p) [
      | inl lt ↦ (let e : nat_le p i ≡ false = grind (arith, nat_tests) in rw e (omega arith))
      | inr le ↦ (let e = from_first p ps i le in omega (arith, e, rest))
    ]

next_start : (low n : ℕ) (ps : List ℕ) (j : ℕ) → AscendsFrom low ps → AllByRecursion (λ p. p ≤ n) ps → j < length ps → get_or ps j (n + 1) < get_or ps (suc j) (n + 1)
next_start low n [] j h w lt = absurd (omega (arith, lt))
next_start low n (p ∷ []) zero h w lt = (let most = w.0 in omega (arith, most))
next_start low n (p ∷ q ∷ ps) zero h w lt = (let more = h.1.0 in omega (arith, more))
next_start low n (p ∷ ps) (suc j) h w lt = next_start (p + 1) n ps j h.1 w.1 (omega (arith, lt))

start_between : (low n : ℕ) (ps : List ℕ) (j : ℕ) → AscendsFrom low ps → AllByRecursion (λ p. p ≤ n) ps → j < length ps → (low ≤ get_or ps j (n + 1)) × (get_or ps j (n + 1) ≤ n)
start_between low n [] j h w lt = absurd (omega (arith, lt))
start_between low n (p ∷ ps) zero h w lt = (h.0, w.0)
start_between low n (p ∷ ps) (suc j) h w lt = (let rest = start_between (p + 1) n ps j h.1 w.1 (omega (arith, lt)) in let first = h.0 in (let least = rest.0 in omega (arith, least, first), rest.1))

pub start_positive : (low n : ℕ) (ps : List ℕ) (j : ℕ) → 1 ≤ low → AscendsFrom low ps → 1 ≤ get_or ps j (n + 1)
start_positive low n [] j le h = omega arith
start_positive low n (p ∷ ps) zero le h = (let first = h.0 in omega (arith, le, first))
start_positive low n (p ∷ ps) (suc j) le h = start_positive (p + 1) n ps j (omega arith) h.1

start_most : (n : ℕ) (ps : List ℕ) (j : ℕ) → AllByRecursion (λ p. p ≤ n) ps → get_or ps j (n + 1) ≤ n + 1
start_most n [] j w = omega arith
start_most n (p ∷ ps) zero w = (let most = w.0 in omega (arith, most))
start_most n (p ∷ ps) (suc j) w = start_most n ps j w.1

pub least_of : (low x : ℕ) (ns : List ℕ) → AscendsFrom low ns → Has x ns → low ≤ x
least_of low x [] h m = absurd m
least_of low x (n ∷ ns) h m = (let first = h.0 in elim m [ inl e ↦ omega (arith, e, first) | inr i ↦ (let rest = least_of (n + 1) x ns h.1 i in omega (arith, rest, first)) ])

pub starts_with : (low x : ℕ) (ps : List ℕ) (n : ℕ) → AscendsFrom low ps → Has x ps → get_or ps 0 (n + 1) ≤ x
starts_with low x [] n h m = absurd m
starts_with low x (p ∷ ps) n h m = least_of p x (p ∷ ps) (omega arith, h.1) m

few_from : (low n : ℕ) (ps : List ℕ) → low ≤ n + 1 → AscendsFrom low ps → AllByRecursion (λ p. p ≤ n) ps → length ps + low ≤ n + 1
few_from low n [] le h w = omega (arith, le)
few_from low n (p ∷ ps) le h w =
    let first = h.0 in
    let most = w.0 in
    let rest = few_from (p + 1) n ps (omega (arith, most)) h.1 w.1 in
    omega (arith, rest, first)

-- ---- the runs of the numbers from 1 to n

module _ (ps : List ℕ) (n : ℕ) (h : AreStarts ps n) where
  -- a run begins at a number or before it exactly where the number's run is not before it
  pub begun : (i c : ℕ) → i ≤ n → 1 ≤ c → start_of ps n c ≤ i → c ≤ run_of ps i
  begun i c most some le = (let lt = start_is_counted 1 n ps i (c - 1) h.ascending most le in omega (arith, lt, some))

  pub begins : (i c : ℕ) → 1 ≤ c → c ≤ run_of ps i → start_of ps n c ≤ i
  begins i c some le = counted_is_start 1 n ps i (c - 1) h.ascending (omega (arith, some, le))

  -- and so does it end
  pub ended : (i c : ℕ) → i ≤ n → i ≤ end_of ps n c → run_of ps i ≤ c
  ended i c most le =
      let some = start_positive 1 n ps c (omega arith) h.ascending in
      elim (cases_lt c (run_of ps i)) [
        | inl lt ↦ absurd (let at = counted_is_start 1 n ps i c h.ascending lt in omega (arith, at, some, le))
        | inr rest ↦ rest
      ]

  pub ends : (i c : ℕ) → i ≤ n → run_of ps i ≤ c → i ≤ end_of ps n c
  ends i c most le =
      elim (cases_lt i (get_or ps c (n + 1))) [
        | inl lt ↦ omega (arith, lt)
        | inr from ↦ absurd (let lt = start_is_counted 1 n ps i c h.ascending most from in omega (arith, lt, le))
      ]

  pub start_in : (c : ℕ) → 1 ≤ c → c ≤ length ps → (1 ≤ start_of ps n c) × (start_of ps n c ≤ n)
  start_in c some most = start_between 1 n ps (c - 1) h.ascending h.within (omega (arith, some, most))

  pub end_in : (c : ℕ) → end_of ps n c ≤ n
  end_in c = (let most = start_most n ps c h.within in omega (arith, most))

  -- a run's first number is in it
  pub run_at : (c : ℕ) → 1 ≤ c → c ≤ length ps → run_of ps (start_of ps n c) ≡ c
  run_at c some most =
      let within = start_in c some most in
      let least = begun (start_of ps n c) c within.1 some (omega arith) in
      let past : suc (c - 1) ≡ c = omega (arith, some) in
      let next : start_of ps n c < get_or ps c (n + 1) = subst (λ k. start_of ps n c < get_or ps k (n + 1)) past (next_start 1 n ps (c - 1) h.ascending h.within (omega (arith, some, most))) in
      let last = ended (start_of ps n c) c within.1 (omega (arith, next)) in
      omega (arith, least, last)

  pub rises : (i k : ℕ) → k ≤ n → i ≤ k → run_of ps i ≤ run_of ps k
  rises i k most le =
      elim (cases_lt (run_of ps k) (run_of ps i)) [
        | inl lt ↦ absurd (
            let at = counted_is_start 1 n ps i (run_of ps k) h.ascending lt in
            let more = start_is_counted 1 n ps k (run_of ps k) h.ascending most (omega (arith, at, le)) in
            omega (arith, more))
        | inr rest ↦ rest
      ]

  pub some_run : (i : ℕ) → 1 ≤ i → i ≤ n → 1 ≤ run_of ps i
  some_run i some most =
      let first = starts_with 1 1 ps n h.ascending (h.first (omega (arith, some, most))) in
      start_is_counted 1 n ps i 0 h.ascending most (omega (arith, first, some))

  -- a run ends behind its first number, and before the next ones begin
  pub start_end : (c d : ℕ) → 1 ≤ c → c ≤ d → d ≤ length ps → start_of ps n c ≤ end_of ps n d
  start_end c d some le most =
      let within = start_in c some (omega (arith, le, most)) in
      let at = run_at c some (omega (arith, le, most)) in
      ends (start_of ps n c) d within.1 (omega (arith, at, le))

  pub end_start : (c d : ℕ) → c < d → d ≤ length ps → end_of ps n c < start_of ps n d
  end_start c d lt most =
      let within = start_in d (omega (arith, lt)) most in
      let at = run_at d (omega (arith, lt)) most in
      elim (cases_lt (end_of ps n c) (start_of ps n d)) [
        | inl less ↦ less
        | inr le ↦ absurd (let last = ended (start_of ps n d) c within.1 le in omega (arith, last, at, lt))
      ]

  -- there are no more runs than numbers
  pub few_starts : length ps ≤ n
  few_starts = (let few = few_from 1 n ps (omega arith) h.ascending h.within in omega (arith, few))
