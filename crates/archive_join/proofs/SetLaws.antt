-- Sets of all versions, and sets that take few bytes.
use Rattle.std.proofs.Common.{◌≡◌, ℕ, zero, suc, ◌+◌, ◌<◌, ◌≤◌, ◌==◌, ◌||◌, Bool, true, false, List, [], ◌∷◌, ◌++◌, map, Some, None, IsTrue, ℤ, pos, ◌+ℤ◌, refl, ap, sym, subst, ◌∙◌, arith, eqb-true}
use Rattle.std.proofs.lemmas.Int.{ints}
use Rattle.std.specs.List.{range_with_len}
use Rattle.version_set.specs.Members.{members, has, united, upto_pairs, moved_pair, IsVersion}
use Rattle.version_set.proofs.MembersLemmas.{members-injective}
use Rattle.version_set.proofs.SetLemmas.{IsCanonical-united}
use Rattle.version_set.proofs.Sets.{members-upto_pairs, IsCanonical-upto_pairs}
use Rattle.archive_tree.specs.Data.{Stamp}
use Rattle.nested_merge.proofs.Stamps.{Below, range_below}
use Rattle.record_copy.specs.Raised.{raised}
use Rattle.record_parts.specs.declared.limits.TheConstants.{MOST_VERSIONS}
use Rattle.record_copy.specs.Short.{IfStored, IsRaisedOf}
use Rattle.archive_join.specs.Joined.{alone, paired}
use Rattle.archive_join.specs.Short.{IsMadeOf}
use Rattle.archive_join.proofs.BothSets.{Above, later, later_above, members-raised, IsCanonical-raised, united_apart}
use Rattle.archive_join.proofs.Running.{made-first, raised-none}

-- ---- all versions

range_both : (a n m : ℕ) → range_with_len a n ++ range_with_len (a + n) m ≡ range_with_len a (n + m)
range_both a zero m = (let e : a + 0 ≡ a = omega arith in let f : 0 + m ≡ m = omega arith in rw (e, f) refl)
range_both a (suc n) m =
    let e : a + suc n ≡ a + 1 + n = omega arith in
    let f : suc n + m ≡ suc (n + m) = omega arith in
    rw (e, f) (ap (λ z. a ∷ z) (range_both (a + 1) n m))

range_up : (n a k : ℕ) → later n (range_with_len a k) ≡ range_with_len (a + n) k
range_up n a zero = refl
range_up n a (suc k) = (let e : a + n + 1 ≡ a + 1 + n = omega arith in rw e (ap (λ z. (a + n) ∷ z) (range_up n (a + 1) k)))

range_from : (low a k : ℕ) → low ≤ a → Above low (range_with_len a k)
range_from low a zero h = tt
range_from low a (suc k) h = (h, range_from low (a + 1) k (omega arith))

-- the first versions, and behind them the others
pub upto_both : (n m : ℕ) → united (upto_pairs n) (raised n (upto_pairs m)) ≡ upto_pairs (n + m)
upto_both n m =
    let p = upto_pairs n in
    let q = raised n (upto_pairs m) in
    let ours : members p ≡ range_with_len 1 n = members-upto_pairs n in
    let theirs : members q ≡ later n (range_with_len 1 m) = members-raised n (upto_pairs m) ∙ ap (later n) (members-upto_pairs m) in
    let c = IsCanonical-upto_pairs n in
    let d = IsCanonical-raised n (upto_pairs m) (IsCanonical-upto_pairs m) in
    let low : Below (1 + n) (members p) = subst (Below (1 + n)) (sym ours) (range_below (1 + n) 1 n (omega arith)) in
    let high : Above (1 + n) (members q) = subst (Above (1 + n)) (sym theirs) (later_above n 1 (range_with_len 1 m) (range_from 1 1 m (omega arith))) in
    let apart = united_apart (1 + n) p q (omega arith) c d low high in
    let same : members (united p q) ≡ members (upto_pairs (n + m)) = apart ∙ (λ i. ours i ++ theirs i) ∙ ap (λ z. range_with_len 1 n ++ z) (range_up n 1 m) ∙ range_both 1 n m ∙ sym (members-upto_pairs (n + m)) in
    members-injective (united p q) (upto_pairs (n + m)) (IsCanonical-united p q c d) (IsCanonical-upto_pairs (n + m)) same

range_has : (a k n : ℕ) → IsTrue (has (range_with_len a k) n) → (a ≤ n) × (n < a + k)
range_has a zero n h = absurd cc
range_has a (suc k) n h = split (a == n) (has (range_with_len (a + 1) k) n) (eqb-true a n) (range_has (a + 1) k n) h
  where
    split : (b c : Bool) → (b ≡ true → a ≡ n) → (IsTrue c → (a + 1 ≤ n) × (n < a + 1 + k)) → IsTrue (b || c) → (a ≤ n) × (n < a + suc k)
    split true c here there h = (let e : a ≡ n = here refl in (omega arith, omega arith))
    split false c here there h = (let r = there h in let low : a + 1 ≤ n = r.0 in let high : n < a + 1 + k = r.1 in (omega arith, omega arith))

-- with so many more each is a version still
pub may_rise : (ns : List ℕ) (n m : ℕ) (by : ℤ) → ns ≡ range_with_len 1 m → n + m ≤ MOST_VERSIONS → by ≡ pos n → (k : ℕ) → IsTrue (has ns k) → IsVersion (pos k +ℤ by)
may_rise ns n m by e few is k h =
    let r = range_has 1 m k (subst (λ z. IsTrue (has z k)) e h) in
    let low : 1 ≤ k = r.0 in
    let high : k < 1 + m = r.1 in
    subst (λ z. IsVersion (pos k +ℤ z)) (sym is) (omega (arith, ints), omega (arith, ints))

pub raised_is : (n : ℕ) (by : ℤ) (ps : List (ℕ × ℕ)) → by ≡ pos n → map (moved_pair by) ps ≡ raised n ps
raised_is n by ps e = ap (λ z. map (moved_pair z) ps) e

-- ---- few bytes

made_both : (b n : ℕ) (p q : List (ℕ × ℕ)) → IsRaisedOf b 0 p → IsRaisedOf b n q → IsMadeOf b n (united p q)
made_both b n p q h g = (Some h.0, Some g.0, h.1, g.1, λ i. united ((h.2 ∙ raised-none h.0) i) (g.2 i))

pub paired_made : (b n : ℕ) (p q : List (ℕ × ℕ)) (s t : Stamp) → IsRaisedOf b 0 p → IsRaisedOf b n q → IfStored (IsRaisedOf b 0) s → IfStored (IsRaisedOf b n) t → IfStored (IsMadeOf b n) (paired p q s t)
paired_made b n p q None None h g i j = tt
paired_made b n p q None (Some t) h g i j = made_both b n p t h j
paired_made b n p q (Some s) None h g i j = made_both b n s q i g
paired_made b n p q (Some s) (Some t) h g i j = made_both b n s t i j

pub alone_made : (b n : ℕ) (p q : List (ℕ × ℕ)) (s : Stamp) → IsRaisedOf b 0 p → IfStored (IsRaisedOf b 0) s → IfStored (IsMadeOf b n) (alone p q s)
alone_made b n p [] None h i = tt
alone_made b n p [] (Some s) h i = made-first b n s i
alone_made b n p (r ∷ rs) None h i = made-first b n p h
alone_made b n p (r ∷ rs) (Some s) h i = made-first b n s i
