-- Lists of numbers, and the intervals that give them.
use Rattle.std.proofs.Common.{◌≡◌, ℕ, zero, suc, ◌+◌, ◌<◌, ◌≤◌, ◌==◌, ◌||◌, true, false, List, [], ◌∷◌, map, refl, ap, sym, subst, arith, inl, inr, true≢false}
use Rattle.std.proofs.lemmas.Bool.{eqb-true, eq-eqb, cases_lt}
use Rattle.std.proofs.lemmas.Bool.Decides.{nat_tests}
use Rattle.std.proofs.lemmas.Cmp.{nat_cmp_total}
use Rattle.std.specs.List.{AllByRecursion, range_with_len}
use Rattle.std.specs.Ordering.{nat_cmp}
use Rattle.std.specs.declared.cmp.Ordering.TheVariants.{Less}
use Rattle.version_set.specs.Pairs.{IsCanonical}
use Rattle.version_set.specs.Members.{members, has, AscendsFrom}
use Rattle.version_set.proofs.MembersLemmas.{members_ascend}
use Rattle.keyed_tree.specs.Lists.{Ascends, Has}
use Rattle.jsonml_tree.proofs.Lists.{same_items}

pub has-Has : (ns : List ℕ) (n : ℕ) → has ns n ≡ true → Has n ns
has-Has [] n h = absurd (true≢false (sym h))
has-Has (m ∷ ms) n h =
    elim (m == n) as (λ b. (m == n) ≡ b → (b || has ms n) ≡ true → Has n (m ∷ ms)) [
      | true ↦ λ e g. inl (eqb-true m n e)
      | false ↦ λ e g. inr (has-Has ms n g)
    ] refl h

pub Has-has : (ns : List ℕ) (n : ℕ) → Has n ns → has ns n ≡ true
Has-has [] n h = absurd h
Has-has (m ∷ ms) n h = elim h [
  | inl e ↦ (let d = eq-eqb m n e in rw d)
  | inr k ↦ (let d = Has-has ms n k in elim (m == n) as (λ b. (b || has ms n) ≡ true) [ true ↦ refl | false ↦ d ])
]

-- ---- ascending numbers

nat_less : (m n : ℕ) → m < n → nat_cmp m n ≡ Less
nat_less m n h = grind (arith, nat_tests)

less_nat : (m n : ℕ) → nat_cmp m n ≡ Less → m < n
less_nat m n h = grind (arith, nat_tests)

from_above : (m low : ℕ) (ns : List ℕ) → m < low → AscendsFrom low ns → AllByRecursion (λ n. nat_cmp m n ≡ Less) ns
from_above m low [] h g = tt
from_above m low (n ∷ ns) h g = (let first = g.0 in (nat_less m n (omega arith), from_above m (n + 1) ns (omega arith) g.1))

pub from_ascends : (low : ℕ) (ns : List ℕ) → AscendsFrom low ns → Ascends nat_cmp ns
from_ascends low [] h = tt
from_ascends low (n ∷ ns) h = (from_above n (n + 1) ns (omega arith) h.1, from_ascends (n + 1) ns h.1)

above_from : (m : ℕ) (ns : List ℕ) → AllByRecursion (λ n. nat_cmp m n ≡ Less) ns → Ascends nat_cmp ns → AscendsFrom (m + 1) ns
above_from m [] h g = tt
above_from m (n ∷ ns) h g = (let low = less_nat m n h.0 in (omega arith, above_from n ns g.0 g.1))

pub ascends_from : (ns : List ℕ) → Ascends nat_cmp ns → AscendsFrom 0 ns
ascends_from [] h = tt
ascends_from (n ∷ ns) h = (omega arith, above_from n ns h.0 h.1)

pub members-ascend : (s : List (ℕ × ℕ)) → IsCanonical s → Ascends nat_cmp (members s)
members-ascend s h = from_ascends 1 (members s) (members_ascend 1 s h)

range_from : (low n k : ℕ) → low ≤ n → AscendsFrom low (range_with_len n k)
range_from low n zero h = tt
range_from low n (suc k) h = (h, range_from (n + 1) (n + 1) k (omega arith))

pub range-ascend : (n k : ℕ) → Ascends nat_cmp (range_with_len n k)
range-ascend n k = from_ascends n (range_with_len n k) (range_from n n k (omega arith))

-- two ascending lists with the same numbers are one
pub same_numbers : (ns ms : List ℕ) → Ascends nat_cmp ns → Ascends nat_cmp ms → ((n : ℕ) → Has n ns → Has n ms) → ((n : ℕ) → Has n ms → Has n ns) → ns ≡ ms
same_numbers ns ms h g p q = same_items (λ n. n) nat_cmp_total ns ms (subst (Ascends nat_cmp) (sym (map-itself ns)) h) (subst (Ascends nat_cmp) (sym (map-itself ms)) g) p q
  where
    map-itself : (ns : List ℕ) → map (λ n. n) ns ≡ ns
    map-itself [] = refl
    map-itself (n ∷ ns) = ap (λ z. n ∷ z) (map-itself ns)

-- the numbers from low on, as many as k
pub range_has : (low k n : ℕ) → Has n (range_with_len low k) → (low ≤ n) × (n < low + k)
range_has low zero n h = absurd h
range_has low (suc k) n h = elim h [
  | inl e ↦ (omega arith, omega arith)
  | inr m ↦ (let rest = range_has (low + 1) k n m in (omega arith, omega arith))
]

pub has_range : (low k n : ℕ) → low ≤ n → n < low + k → Has n (range_with_len low k)
has_range low zero n h g = absurd (omega arith)
has_range low (suc k) n h g = elim (cases_lt low n) [ inl m ↦ inr (has_range (low + 1) k n (omega arith) (omega arith)) | inr m ↦ inl (omega arith) ]
