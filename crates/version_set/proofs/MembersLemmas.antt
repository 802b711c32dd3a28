-- The numbers of intervals.
use Rattle.std.proofs.Common.{◌≡◌, ℕ, zero, suc, ◌+◌, ◌-◌, ◌<◌, ◌≤◌, ◌==◌, ◌&&◌, ◌||◌, Bool, true, false, List, [], ◌∷◌, ◌++◌, refl, sym, ap, subst, ◌∙◌, append_assoc, arith, inl, inr, leb, eq-eqb}
use Rattle.std.specs.List.{range_with_len}
use Rattle.std.proofs.lemmas.Bool.{cases_lt, cases_eq, false≢true}
use Rattle.std.proofs.lemmas.Bool.Decides.{nat_tests}
use Rattle.version_set.specs.Pairs.{IsFrom, IsCanonical, last_of}
use Rattle.version_set.specs.Members.{numbers, members, has, AscendsFrom, before, intervals, with_last}

-- ---- being one of some numbers

or_assoc : (a b c : Bool) → ((a || b) || c) ≡ (a || (b || c))
or_assoc true b c = refl
or_assoc false b c = refl

pub has-append : (a b : List ℕ) (n : ℕ) → has (a ++ b) n ≡ (has a n || has b n)
has-append [] b n = refl
has-append (m ∷ a) b n = ap (λ (x : Bool). m == n || x) (has-append a b n) ∙ sym (or_assoc (m == n) (has a n) (has b n))

range_below : (low k n : ℕ) → n < low → has (range_with_len low k) n ≡ false
range_below low zero n lt = refl
range_below low (suc k) n lt = let e = range_below (low + 1) k n (omega arith) in grind (arith, nat_tests)

range_above : (low k n : ℕ) → low + k ≤ n → has (range_with_len low k) n ≡ false
range_above low zero n le = refl
range_above low (suc k) n le = let e = range_above (low + 1) k n (omega arith) in grind (arith, nat_tests)

within_more : (low k n : ℕ) → low ≤ n → (low < n → has (range_with_len (low + 1) k) n ≡ true) → has (range_with_len low (suc k)) n ≡ true
within_more low k n le rest = grind (arith, nat_tests)

range_within : (low k n : ℕ) → low ≤ n → n < low + k → has (range_with_len low k) n ≡ true
range_within low zero n le lt = absurd (omega arith)
range_within low (suc k) n le lt = within_more low k n le (λ more. range_within (low + 1) k n (omega arith) (omega arith))

-- ---- being in an interval

-- whether n is in one of the intervals
abbrev pub covers : List (ℕ × ℕ) → ℕ → Bool
covers [] n = false
covers (p ∷ ps) n = (leb p.0 n && leb n p.1) || covers ps n

pub has-numbers : (p : ℕ × ℕ) (n : ℕ) → has (numbers p) n ≡ (leb p.0 n && leb n p.1)
has-numbers p n =
    elim (cases_lt n p.0) [
      | inl below ↦ (let e = range_below p.0 (p.1 + 1 - p.0) n below in grind (arith, nat_tests))
      | inr from ↦ elim (cases_lt p.1 n) [
        | inl past ↦ (let e = range_above p.0 (p.1 + 1 - p.0) n (omega arith) in grind (arith, nat_tests))
        | inr to ↦ (let e = range_within p.0 (p.1 + 1 - p.0) n from (omega arith) in grind (arith, nat_tests))
      ]
    ]

-- a number is a member where it is in an interval
pub has-members : (ps : List (ℕ × ℕ)) (n : ℕ) → has (members ps) n ≡ covers ps n
has-members [] n = refl
has-members (p ∷ ps) n = has-append (range_with_len p.0 (p.1 + 1 - p.0)) (members ps) n ∙ (λ i. has-numbers p n i || has-members ps n i)

-- ---- ascending numbers

pub Ascends-weaker : (low high : ℕ) (ns : List ℕ) → low ≤ high → AscendsFrom high ns → AscendsFrom low ns
Ascends-weaker low high [] le a = tt
Ascends-weaker low high (n ∷ ns) le a = (omega (arith, a.0), a.1)

pub not_below : (low : ℕ) (ns : List ℕ) (n : ℕ) → AscendsFrom low ns → n < low → has ns n ≡ false
not_below low [] n a lt = refl
not_below low (m ∷ ns) n a lt = let e = not_below (m + 1) ns n a.1 (omega (arith, a.0)) in let g = a.0 in grind (arith, nat_tests)

has_first : (n : ℕ) (ns : List ℕ) → has (n ∷ ns) n ≡ true
has_first n ns = (let e = eq-eqb n n refl in rw e)

later : (x : ℕ) (xs : List ℕ) (n : ℕ) → x < n → has (x ∷ xs) n ≡ has xs n
later x xs n lt = grind (arith, nat_tests)

first_less : (low high x y : ℕ) (xs ys : List ℕ) → AscendsFrom low (x ∷ xs) → AscendsFrom high (y ∷ ys) → ((n : ℕ) → has (x ∷ xs) n ≡ has (y ∷ ys) n) → x < y → ⊥
first_less low high x y xs ys a b h lt = false≢true (sym (not_below y (y ∷ ys) x (omega arith, b.1) lt) ∙ sym (h x) ∙ has_first x xs)

rest_same : (x y : ℕ) (xs ys : List ℕ) (n : ℕ) → x ≡ y → AscendsFrom (x + 1) xs → AscendsFrom (y + 1) ys → has (x ∷ xs) n ≡ has (y ∷ ys) n → has xs n ≡ has ys n
rest_same x y xs ys n e a b h =
    elim (cases_lt x n) [
      | inl lt ↦ sym (later x xs n lt) ∙ h ∙ later y ys n (omega arith)
      | inr le ↦ not_below (x + 1) xs n a (omega arith) ∙ sym (not_below (y + 1) ys n b (omega arith))
    ]

at_most : (m n : ℕ) → (m < n → ⊥) → n ≤ m
at_most m n h = elim (cases_lt m n) [ inl lt ↦ absurd (h lt) | inr le ↦ le ]

-- ascending lists with the same numbers are equal
pub same_numbers : (low high : ℕ) (xs ys : List ℕ) → AscendsFrom low xs → AscendsFrom high ys → ((n : ℕ) → has xs n ≡ has ys n) → xs ≡ ys
same_numbers low high [] [] a b h = refl
same_numbers low high [] (y ∷ ys) a b h = absurd (false≢true (h y ∙ has_first y ys))
same_numbers low high (x ∷ xs) [] a b h = absurd (false≢true (sym (h x) ∙ has_first x xs))
same_numbers low high (x ∷ xs) (y ∷ ys) a b h =
    let least : x ≤ y = at_most y x (λ lt. first_less high low y x ys xs b a (λ n. sym (h n)) lt) in
    let most : y ≤ x = at_most x y (λ lt. first_less low high x y xs ys a b h lt) in
    let first : x ≡ y = omega arith in
    let others : xs ≡ ys = same_numbers (x + 1) (y + 1) xs ys a.1 b.1 (λ n. rest_same x y xs ys n first a.1 b.1 (h n)) in
    λ i. first i ∷ others i

-- ---- the intervals of ascending numbers

pub IsFrom-weaker : (low high : ℕ) (ps : List (ℕ × ℕ)) → low ≤ high → IsFrom high ps → IsFrom low ps
IsFrom-weaker low high [] le c = tt
IsFrom-weaker low high (p ∷ ps) le c = (omega (arith, c.0), c.1, c.2)

range_ascends : (a k low : ℕ) (ns : List ℕ) → low ≤ a → AscendsFrom (a + k) ns → AscendsFrom low (range_with_len a k ++ ns)
range_ascends a zero low ns le h = Ascends-weaker low (a + 0) ns (omega arith) h
range_ascends a (suc k) low ns le h = (le, range_ascends (a + 1) k (a + 1) ns (omega arith) (Ascends-weaker ((a + 1) + k) (a + suc k) ns (omega arith) h))

-- the members ascend
pub members_ascend : (low : ℕ) (ps : List (ℕ × ℕ)) → IsFrom low ps → AscendsFrom low (members ps)
members_ascend low [] c = tt
members_ascend low (p ∷ ps) c =
    let order = c.1 in
    range_ascends p.0 (p.1 + 1 - p.0) low (members ps) c.0 (Ascends-weaker (p.0 + (p.1 + 1 - p.0)) (p.1 + 2) (members ps) (omega arith) (members_ascend (p.1 + 2) ps c.2))

-- n alone, in front of intervals that do not touch it
before_apart : (n : ℕ) (ps : List (ℕ × ℕ)) → IsFrom (n + 2) ps → before n ps ≡ (n, n) ∷ ps
before_apart n [] c = refl
before_apart n (p ∷ ps) c = (let low = c.0 in let e : (n + 1 == p.0) ≡ false = grind (arith, nat_tests) in rw e)

before_joins : (n : ℕ) (p : ℕ × ℕ) (ps : List (ℕ × ℕ)) → n + 1 ≡ p.0 → before n (p ∷ ps) ≡ (n, p.1) ∷ ps
before_joins n p ps e = (let t = eq-eqb (n + 1) p.0 e in rw t)

intervals_run : (a m : ℕ) (ns : List ℕ) (ps : List (ℕ × ℕ)) → intervals ns ≡ ps → IsFrom (a + m + 2) ps → intervals (range_with_len a (suc m) ++ ns) ≡ (a, a + m) ∷ ps
intervals_run a zero ns ps e c =
    let z : a + 0 ≡ a = omega arith in
    ap (before a) e ∙ before_apart a ps (IsFrom-weaker (a + 2) (a + 0 + 2) ps (omega arith) c) ∙ ap (λ (k : ℕ). (a, k) ∷ ps) (sym z)
intervals_run a (suc m) ns ps e c =
    let z : (a + 1) + m ≡ a + suc m = omega arith in
    ap (before a) (intervals_run (a + 1) m ns ps e (IsFrom-weaker ((a + 1) + m + 2) (a + suc m + 2) ps (omega arith) c))
    ∙ before_joins a (a + 1, (a + 1) + m) ps refl ∙ ap (λ (k : ℕ). (a, k) ∷ ps) z

-- the intervals of the members
pub intervals-members : (low : ℕ) (ps : List (ℕ × ℕ)) → IsFrom low ps → intervals (members ps) ≡ ps
intervals-members low [] c = refl
intervals-members low (p ∷ ps) c =
    let order = c.1 in
    let k : p.1 + 1 - p.0 ≡ suc (p.1 - p.0) = omega arith in
    let z : p.0 + (p.1 - p.0) ≡ p.1 = omega arith in
    ap (λ (n : ℕ). intervals (range_with_len p.0 n ++ members ps)) k
    ∙ intervals_run p.0 (p.1 - p.0) (members ps) ps (intervals-members (p.1 + 2) ps c.2) (subst (λ (n : ℕ). IsFrom (n + 2) ps) (sym z) c.2)
    ∙ ap (λ (n : ℕ). (p.0, n) ∷ ps) z

-- sets with the same members are the same list of intervals
pub members-injective : (ps qs : List (ℕ × ℕ)) → IsCanonical ps → IsCanonical qs → members ps ≡ members qs → ps ≡ qs
members-injective ps qs c d e = sym (intervals-members 1 ps c) ∙ ap intervals e ∙ intervals-members 1 qs d

one_run : (n : ℕ) → range_with_len n (n + 1 - n) ≡ n ∷ []
one_run n = (let e : n + 1 - n ≡ 1 = omega arith in rw e)

pub record Holds (low : ℕ) (ps : List (ℕ × ℕ)) (ns : List ℕ) : Type 0 where
  pub canonical : IsFrom low ps
  pub members : members ps ≡ ns

holds_before : (low n : ℕ) (ps : List (ℕ × ℕ)) (ns : List ℕ) → low ≤ n → Holds (n + 1) ps ns → Holds low (before n ps) (n ∷ ns)
holds_before low n [] ns le h = record { canonical = (le, omega arith, tt); members = ap (λ (x : List ℕ). x ++ []) (one_run n) ∙ ap (λ (x : List ℕ). n ∷ x) h.members }
holds_before low n (p ∷ ps) ns le h =
    let first = h.canonical.0 in
    let order = h.canonical.1 in
    elim (cases_eq (n + 1) p.0) [
      | inl e ↦
          let k : p.1 + 1 - n ≡ suc (p.1 + 1 - p.0) = omega arith in
          let t = eq-eqb (n + 1) p.0 e in
          rw t (record {
            canonical = (le, omega arith, h.canonical.2);
            members = ap (λ (x : ℕ). range_with_len n x ++ members ps) k ∙ ap (λ (x : ℕ). n ∷ (range_with_len x (p.1 + 1 - p.0) ++ members ps)) e ∙ ap (λ (x : List ℕ). n ∷ x) h.members;
          })
      | inr apart ↦
          let t : (n + 1 == p.0) ≡ false = grind (arith, nat_tests) in
          rw t (record {
            canonical = (le, omega arith, (omega (arith, apart), order, h.canonical.2));
            members = ap (λ (x : List ℕ). x ++ members (p ∷ ps)) (one_run n) ∙ ap (λ (x : List ℕ). n ∷ x) h.members;
          })
    ]

pub holds_intervals : (low : ℕ) (ns : List ℕ) → AscendsFrom low ns → Holds low (intervals ns) ns
holds_intervals low [] a = record { canonical = tt; members = refl }
holds_intervals low (n ∷ ns) a = holds_before low n (intervals ns) ns a.0 (holds_intervals (n + 1) ns a.1)

-- the members of the intervals
pub members-intervals : (low : ℕ) (ns : List ℕ) → AscendsFrom low ns → members (intervals ns) ≡ ns
members-intervals low ns a = (holds_intervals low ns a).members

pub IsFrom-intervals : (low : ℕ) (ns : List ℕ) → AscendsFrom low ns → IsFrom low (intervals ns)
IsFrom-intervals low ns a = (holds_intervals low ns a).canonical

-- ---- a number past them all

last_above : (low : ℕ) (p : ℕ × ℕ) (ps : List (ℕ × ℕ)) → IsFrom low (p ∷ ps) → low ≤ last_of (p ∷ ps)
last_above low p [] c = omega (arith, c.0, c.1)
last_above low p (q ∷ ps) c = omega (arith, c.0, c.1, last_above (p.1 + 2) q ps c.2)

-- the numbers of the first interval and later ones
run_ascends : (low : ℕ) (p : ℕ × ℕ) (ns : List ℕ) → low ≤ p.0 → p.0 ≤ p.1 → AscendsFrom (p.1 + 1) ns → AscendsFrom low (numbers p ++ ns)
run_ascends low p ns le order h = range_ascends p.0 (p.1 + 1 - p.0) low ns le (Ascends-weaker (p.0 + (p.1 + 1 - p.0)) (p.1 + 1) ns (omega arith) h)

-- a number past the last makes the members go on ascending
pub ascends_past : (low : ℕ) (ps : List (ℕ × ℕ)) (n : ℕ) → IsFrom low ps → last_of ps < n → low ≤ n → AscendsFrom low (members ps ++ n ∷ [])
ascends_past low [] n c lt le = (le, tt)
ascends_past low (p ∷ []) n c lt le =
    let past : p.1 + 1 ≤ n = omega arith in
    rw (append_assoc (numbers p) [] (n ∷ [])) (run_ascends low p (n ∷ []) c.0 c.1 (past, tt))
ascends_past low (p ∷ q ∷ ps) n c lt le =
    let rest = ascends_past (p.1 + 2) (q ∷ ps) n c.2 lt (omega (arith, last_above (p.1 + 2) q ps c.2)) in
    rw (append_assoc (numbers p) (members (q ∷ ps)) (n ∷ [])) (run_ascends low p (members (q ∷ ps) ++ n ∷ []) c.0 c.1 (Ascends-weaker (p.1 + 1) (p.1 + 2) (members (q ∷ ps) ++ n ∷ []) (omega arith) rest))

-- the members with a number past them all
pub members-with_last : (ps : List (ℕ × ℕ)) (n : ℕ) → IsCanonical ps → last_of ps < n → members (with_last ps n) ≡ members ps ++ n ∷ []
members-with_last ps n c lt = members-intervals 1 (members ps ++ n ∷ []) (ascends_past 1 ps n c lt (omega arith))

pub IsCanonical-with_last : (ps : List (ℕ × ℕ)) (n : ℕ) → IsCanonical ps → last_of ps < n → IsCanonical (with_last ps n)
IsCanonical-with_last ps n c lt = IsFrom-intervals 1 (members ps ++ n ∷ []) (ascends_past 1 ps n c lt (omega arith))

-- what is added is one more number
pub members_added : (old new : List (ℕ × ℕ)) (n : ℕ) → IsCanonical old → IsCanonical new → last_of old < n → ((k : ℕ) → has (members new) k ≡ (has (members old) k || has (numbers (n, n)) k)) → members new ≡ members old ++ n ∷ []
members_added old new n c d lt h =
    same_numbers 1 1 (members new) (members old ++ n ∷ []) (members_ascend 1 new d) (ascends_past 1 old n c lt (omega arith))
    (λ k. h k ∙ ap (λ (ns : List ℕ). has (members old) k || has ns k) (one_run n) ∙ sym (has-append (members old) (n ∷ []) k))

pub pairs_added : (old new : List (ℕ × ℕ)) (n : ℕ) → IsCanonical new → members new ≡ members old ++ n ∷ [] → new ≡ with_last old n
pairs_added old new n d e = sym (intervals-members 1 new d) ∙ ap intervals e
