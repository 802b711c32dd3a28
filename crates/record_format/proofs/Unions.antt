-- A union of sets is within what both are within.
use Rattle.std.proofs.Common.{ℕ, ◌≤◌, max, Bool, true, false, cond, ltb, ◌==◌, List, [], ◌∷◌, sym, subst, arith}
use Rattle.version_set.specs.Pairs.{last_of}
use Rattle.version_set.specs.Members.{members, greatest, put, either, united}
use Rattle.version_set.proofs.SetLemmas.{members-united, IsCanonical-united, greatest-members}
use Rattle.record_parts.specs.Bounds.{IsSet, most}
use Rattle.record_parts.specs.Sets.{set_parts}

one_of : (b : Bool) (xs ys : List ℕ) (n : ℕ) → greatest xs ≤ n → greatest ys ≤ n → greatest (cond b xs ys) ≤ n
one_of true xs ys n p q = p
one_of false xs ys n p q = q

greatest-put : (n : ℕ) (ms : List ℕ) → greatest (put n ms) ≤ max n (greatest ms)
greatest-put n [] = omega arith
greatest-put n (m ∷ ms) =
    let all : ℕ = max n (max m (greatest ms)) in
    one_of (ltb n m) (n ∷ m ∷ ms) (cond (m == n) (m ∷ ms) (m ∷ put n ms)) all (omega arith) (one_of (m == n) (m ∷ ms) (m ∷ put n ms) all (omega arith) (omega (arith, greatest-put n ms)))

greatest-either : (ns ms : List ℕ) → greatest (either ns ms) ≤ max (greatest ns) (greatest ms)
greatest-either [] ms = omega arith
greatest-either (n ∷ ns) ms = omega (arith, greatest-either ns ms, greatest-put n (either ns ms))

pub IsSet-united : (ps qs : List (ℕ × ℕ)) → IsSet ps → IsSet qs → IsSet (united ps qs)
IsSet-united ps qs p q =
    let canonical = IsCanonical-united ps qs p.canonical q.canonical in
    let of : greatest (members (united ps qs)) ≤ max (greatest (members ps)) (greatest (members qs)) =
    subst (λ (ns : List ℕ). greatest ns ≤ max (greatest (members ps)) (greatest (members qs))) (sym (members-united ps qs p.canonical q.canonical)) (greatest-either (members ps) (members qs)) in
    let first = ((set_parts ps).0 p).1 in
    let second = ((set_parts qs).0 q).1 in
    let last : last_of (united ps qs) ≤ most = omega (arith, of, first, second, greatest-members 1 ps p.canonical, greatest-members 1 qs q.canonical, greatest-members 1 (united ps qs) canonical) in
    (set_parts (united ps qs)).1 (canonical, last)
