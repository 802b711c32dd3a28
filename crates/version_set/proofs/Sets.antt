-- What crates above need of sets: members against intervals, ends, unions and common numbers.
use Rattle.std.proofs.Common.{◌≡◌, ℕ, zero, suc, ◌+◌, ◌-◌, ◌<◌, ◌≤◌, ◌==◌, false, List, [], ◌∷◌, ◌++◌, refl, arith}
use Rattle.std.specs.List.{range_with_len, AllByRecursion}
use Rattle.std.proofs.lemmas.List.{append-nil}
use Rattle.std.proofs.lemmas.Bool.Decides.{nat_tests}
use Rattle.version_set.specs.Pairs.{IsCanonical, last_of}
use Rattle.version_set.specs.Members.{members, AscendsFrom, greatest, upto_pairs}
use Rattle.version_set.proofs.SetLemmas.{greatest-members}

some : (n : ℕ) → (suc n == 0) ≡ false
some n = grind (arith, nat_tests)

pub members-upto_pairs : (n : ℕ) → members (upto_pairs n) ≡ range_with_len 1 n
members-upto_pairs zero = refl
members-upto_pairs (suc n) = (let e = some n in rw e (let k : suc n + 1 - 1 ≡ suc n = omega arith in rw k (append-nil (range_with_len 1 (suc n)))))

pub IsCanonical-upto_pairs : (n : ℕ) → IsCanonical (upto_pairs n)
IsCanonical-upto_pairs zero = tt
IsCanonical-upto_pairs (suc n) = (let e = some n in rw e (omega arith, omega arith, tt))

all_below : (low n : ℕ) (ns : List ℕ) → AscendsFrom low (ns ++ n ∷ []) → AllByRecursion (λ m. m < n) ns × (low ≤ n)
all_below low n [] a = (tt, a.0)
all_below low n (m ∷ ns) a =
    let rest = all_below (m + 1) n ns a.1 in
    let past = rest.1 in
    ((omega arith, rest.0), omega (arith, a.0))

below_last : (n : ℕ) (ns : List ℕ) → 0 < n → AllByRecursion (λ m. m < n) ns → greatest ns < n
below_last n [] lt h = lt
below_last n (m ∷ ns) lt h = (let first = h.0 in omega (arith, below_last n ns lt h.1))

-- a number greater than each member is past the last
pub last_below : (ps : List (ℕ × ℕ)) (n : ℕ) → IsCanonical ps → 0 < n → AllByRecursion (λ m. m < n) (members ps) → last_of ps < n
last_below ps n c lt h = omega (arith, greatest-members 1 ps c, below_last n (members ps) lt h)
