-- Unions, common numbers and greatest numbers of ascending lists.
use Rattle.std.proofs.Common.{◌≡◌, ℕ, zero, suc, ◌+◌, ◌-◌, ◌≤◌, ◌==◌, ◌&&◌, ◌||◌, Bool, true, false, cond, List, [], ◌∷◌, ◌++◌, max, refl, sym, ap, ◌∙◌, arith, ltb, inl, inr, eq-eqb, filter}
use Rattle.std.specs.List.{range_with_len}
use Rattle.std.proofs.lemmas.Bool.{cases_lt, cases_eq, lt-ltb, le-ltb, eqb-true, false≢true}
use Rattle.std.proofs.lemmas.Bool.Decides.{nat_tests}
use Rattle.version_set.specs.Pairs.{IsFrom, IsCanonical, last_of}
use Rattle.version_set.specs.Members.{members, has, AscendsFrom, intervals, put, either, united, common, greatest}
use Rattle.version_set.proofs.MembersLemmas.{Ascends-weaker, same_numbers, members_ascend, members-intervals, IsFrom-intervals, intervals-members}

-- ---- the numbers of one of two lists

has-put : (n : ℕ) (ms : List ℕ) (k : ℕ) → has (put n ms) k ≡ (n == k || has ms k)
has-put n [] k = refl
has-put n (m ∷ ms) k =
    elim (cases_lt n m) [
      | inl lt ↦ (let t = lt-ltb n m lt in rw t refl)
      | inr le ↦
          let t : ltb n m ≡ false = le-ltb n m le in
          elim (cases_eq m n) [
            | inl e ↦ (let s = eq-eqb m n e in rw (t, s) (let same : (n == k) ≡ (m == k) = ap (λ (x : ℕ). x == k) (sym e) in rw same (sym (twice (m == k) (has ms k)))))
            | inr apart ↦
                let s : (m == n) ≡ false = grind (arith, nat_tests) in
                rw (t, s) (ap (λ (x : Bool). m == k || x) (has-put n ms k) ∙ exchanged (m == k) (n == k) (has ms k))
          ]
    ]
  where
    twice : (a b : Bool) → (a || (a || b)) ≡ (a || b)
    twice true b = refl
    twice false b = refl

    exchanged : (a b c : Bool) → (a || (b || c)) ≡ (b || (a || c))
    exchanged true true c = refl
    exchanged true false c = refl
    exchanged false true c = refl
    exchanged false false c = refl

-- a number is in one of two lists
pub has-either : (ns ms : List ℕ) (k : ℕ) → has (either ns ms) k ≡ (has ns k || has ms k)
has-either [] ms k = refl
has-either (n ∷ ns) ms k = has-put n (either ns ms) k ∙ ap (λ (x : Bool). n == k || x) (has-either ns ms k) ∙ sym (or_assoc (n == k) (has ns k) (has ms k))
  where
    or_assoc : (a b c : Bool) → ((a || b) || c) ≡ (a || (b || c))
    or_assoc true b c = refl
    or_assoc false b c = refl

put_ascends : (low n : ℕ) (ms : List ℕ) → low ≤ n → AscendsFrom low ms → AscendsFrom low (put n ms)
put_ascends low n [] le a = (le, tt)
put_ascends low n (m ∷ ms) le a =
    elim (cases_lt n m) [
      | inl lt ↦ (let t = lt-ltb n m lt in rw t (le, (omega arith, a.1)))
      | inr ge ↦
          let t : ltb n m ≡ false = le-ltb n m ge in
          elim (cases_eq m n) [
            | inl e ↦ (let s = eq-eqb m n e in rw (t, s) a)
            | inr apart ↦
                let s : (m == n) ≡ false = grind (arith, nat_tests) in
                rw (t, s) (a.0, put_ascends (m + 1) n ms (omega (arith, apart)) a.1)
          ]
    ]

pub either_ascends : (low : ℕ) (ns ms : List ℕ) → AscendsFrom low ns → AscendsFrom low ms → AscendsFrom low (either ns ms)
either_ascends low [] ms a b = b
either_ascends low (n ∷ ns) ms a b =
    let first = a.0 in
    put_ascends low n (either ns ms) a.0 (either_ascends low ns ms (Ascends-weaker low (n + 1) ns (omega arith) a.1) b)

-- what has the numbers of either is the union
pub members_either : (ps qs all : List (ℕ × ℕ)) → IsCanonical ps → IsCanonical qs → IsCanonical all → ((n : ℕ) → has (members all) n ≡ (has (members ps) n || has (members qs) n)) → members all ≡ either (members ps) (members qs)
members_either ps qs all c d e h =
    same_numbers 1 1 (members all) (either (members ps) (members qs)) (members_ascend 1 all e) (either_ascends 1 (members ps) (members qs) (members_ascend 1 ps c) (members_ascend 1 qs d))
    (λ n. h n ∙ sym (has-either (members ps) (members qs) n))

pub pairs_united : (ps qs all : List (ℕ × ℕ)) → IsCanonical all → members all ≡ either (members ps) (members qs) → all ≡ united ps qs
pairs_united ps qs all c e = sym (intervals-members 1 all c) ∙ ap intervals e

-- the members of a union
pub members-united : (ps qs : List (ℕ × ℕ)) → IsCanonical ps → IsCanonical qs → members (united ps qs) ≡ either (members ps) (members qs)
members-united ps qs c d = members-intervals 1 (either (members ps) (members qs)) (either_ascends 1 (members ps) (members qs) (members_ascend 1 ps c) (members_ascend 1 qs d))

pub IsCanonical-united : (ps qs : List (ℕ × ℕ)) → IsCanonical ps → IsCanonical qs → IsCanonical (united ps qs)
IsCanonical-united ps qs c d = IsFrom-intervals 1 (either (members ps) (members qs)) (either_ascends 1 (members ps) (members qs) (members_ascend 1 ps c) (members_ascend 1 qs d))

-- ---- the numbers of both lists

kept_ascends : (low n : ℕ) (kept : List ℕ) (b : Bool) → low ≤ n → AscendsFrom (n + 1) kept → AscendsFrom low (cond b (n ∷ kept) kept)
kept_ascends low n kept true le a = (le, a)
kept_ascends low n kept false le a = Ascends-weaker low (n + 1) kept (omega arith) a

filter_ascends : (low : ℕ) (test : ℕ → Bool) (ns : List ℕ) → AscendsFrom low ns → AscendsFrom low (filter test ns)
filter_ascends low test [] a = tt
filter_ascends low test (n ∷ ns) a = kept_ascends low n (filter test ns) (test n) a.0 (filter_ascends (n + 1) test ns a.1)

-- a number is kept where it passes
pub has-filter : (test : ℕ → Bool) (ns : List ℕ) (k : ℕ) → has (filter test ns) k ≡ (has ns k && test k)
has-filter test [] k = refl
has-filter test (n ∷ ns) k = has_kept test n k (filter test ns) (has ns k) (test n) refl (has-filter test ns k)
  where
    kept : (b t : Bool) (s : Bool) → (b ≡ true → t ≡ true) → (b || (s && t)) ≡ ((b || s) && t)
    kept true true s h = refl
    kept true false s h = absurd (false≢true (h refl))
    kept false t s h = refl

    dropped : (b t : Bool) (s : Bool) → (b ≡ true → t ≡ false) → (s && t) ≡ ((b || s) && t)
    dropped true true s h = absurd (false≢true (sym (h refl)))
    dropped true false true h = refl
    dropped true false false h = refl
    dropped false t s h = refl

    has_kept : (test : ℕ → Bool) (n k : ℕ) (rest : List ℕ) (s : Bool) (b : Bool) → test n ≡ b → has rest k ≡ (s && test k) → has (cond b (n ∷ rest) rest) k ≡ ((n == k || s) && test k)
    has_kept test n k rest s true e r = ap (λ (x : Bool). n == k || x) r ∙ kept (n == k) (test k) s (λ h. ap test (sym (eqb-true n k h)) ∙ e)
    has_kept test n k rest s false e r = r ∙ dropped (n == k) (test k) s (λ h. ap test (sym (eqb-true n k h)) ∙ e)

-- what has the numbers of both is what the second has of the first
pub members_both : (ps qs both : List (ℕ × ℕ)) → IsCanonical ps → IsCanonical both → ((n : ℕ) → has (members both) n ≡ (has (members ps) n && has (members qs) n)) → members both ≡ filter (has (members qs)) (members ps)
members_both ps qs both c e h =
    same_numbers 1 1 (members both) (filter (has (members qs)) (members ps)) (members_ascend 1 both e) (filter_ascends 1 (has (members qs)) (members ps) (members_ascend 1 ps c))
    (λ n. h n ∙ sym (has-filter (has (members qs)) (members ps) n))

pub pairs_common : (ps qs both : List (ℕ × ℕ)) → IsCanonical both → members both ≡ filter (has (members qs)) (members ps) → both ≡ common ps qs
pairs_common ps qs both c e = sym (intervals-members 1 both c) ∙ ap intervals e

-- ---- the greatest number

greatest_run : (a m : ℕ) (ns : List ℕ) → greatest (range_with_len a (suc m) ++ ns) ≡ max (a + m) (greatest ns)
greatest_run a zero ns = omega arith
greatest_run a (suc m) ns = let rest = greatest_run (a + 1) m ns in omega (arith, rest)

-- the last interval ends in the greatest number
pub greatest-members : (low : ℕ) (ps : List (ℕ × ℕ)) → IsFrom low ps → greatest (members ps) ≡ last_of ps
greatest-members low [] c = refl
greatest-members low (p ∷ ps) c =
    let order = c.1 in
    let k : p.1 + 1 - p.0 ≡ suc (p.1 - p.0) = omega arith in
    ap (λ (n : ℕ). greatest (range_with_len p.0 n ++ members ps)) k ∙ greatest_run p.0 (p.1 - p.0) (members ps) ∙ behind ps c.2 (greatest-members (p.1 + 2) ps c.2)
  where
    above : (low : ℕ) (q : ℕ × ℕ) (qs : List (ℕ × ℕ)) → IsFrom low (q ∷ qs) → low ≤ last_of (q ∷ qs)
    above low q [] d = omega (arith, d.0, d.1)
    above low q (r ∷ qs) d = omega (arith, d.0, d.1, above (q.1 + 2) r qs d.2)

    behind : (qs : List (ℕ × ℕ)) → IsFrom (p.1 + 2) qs → greatest (members qs) ≡ last_of qs → max (p.0 + (p.1 - p.0)) (greatest (members qs)) ≡ last_of (p ∷ qs)
    behind [] d e = (let order = c.1 in omega arith)
    behind (q ∷ qs) d e = (let order = c.1 in omega (arith, e, above (p.1 + 2) q qs d))
