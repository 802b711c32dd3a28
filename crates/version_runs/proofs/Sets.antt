-- Sets of runs, spread to numbers.
use Rattle.std.proofs.Common.{◌≡◌, ℕ, zero, suc, ◌+◌, ◌<◌, ◌≤◌, ◌&&◌, ◌||◌, Bool, false, List, [], ◌∷◌, ◌++◌, map, length, get_or, take, leb, refl, sym, ap, subst, ◌∙◌, arith, inl, inr, true≢false}
use Rattle.std.proofs.lemmas.Bool.{cases_lt}
use Rattle.std.proofs.lemmas.Bool.Decides.{nat_tests}
use Rattle.std.proofs.lemmas.List.{map-append, take_more}
use Rattle.version_set.specs.Pairs.{IsFrom, IsCanonical, last_of}
use Rattle.version_set.specs.Members.{AscendsFrom, has, intervals, members}
use Rattle.version_set.proofs.MembersLemmas.{covers, has-members}
use Rattle.keyed_tree.specs.Lists.{Has}
use Rattle.archive_tree.proofs.Numbers.{Has-has}
use Rattle.version_runs.specs.Runs.{AreStarts, run_of, start_of, end_of}
use Rattle.version_runs.specs.Spread.{spread_pair, spread_pairs}
use Rattle.version_runs.proofs.RunLemmas.{begins, begun, ended, ends, end_in, end_start, start_end, start_in}

-- ---- intervals up to a last number

order_last : (low : ℕ) (p : ℕ × ℕ) (s : List (ℕ × ℕ)) → IsFrom low (p ∷ s) → p.1 ≤ last_of (p ∷ s)
order_last low p [] c = omega arith
order_last low p (q ∷ s) c = (let rest = order_last (p.1 + 2) q s c.2 in let low = c.2.0 in let order = c.2.1 in omega (arith, rest, low, order))

later_last : (p : ℕ × ℕ) (s : List (ℕ × ℕ)) (c : ℕ) → last_of (p ∷ s) ≤ c → last_of s ≤ c
later_last p [] c h = omega arith
later_last p (q ∷ s) c h = h

pub same_test : (a b c d : ℕ) → (a ≤ b → c ≤ d) → (c ≤ d → a ≤ b) → leb a b ≡ leb c d
same_test a b c d f g =
    elim (cases_lt b a) [
      | inl lt ↦ elim (cases_lt d c) [ inl more ↦ tests_fail lt more | inr le ↦ absurd (let back = g le in omega (arith, lt, back)) ]
      | inr le ↦ tests_hold le (f le)
    ]
  where
    tests_fail : b < a → d < c → leb a b ≡ leb c d
    tests_fail lt more = grind (arith, nat_tests)

    tests_hold : a ≤ b → c ≤ d → leb a b ≡ leb c d
    tests_hold le more = grind (arith, nat_tests)

-- the numbers of all of some runs
abbrev pub spread_numbers : List ℕ → ℕ → List ℕ → List ℕ
spread_numbers ps n ns = members (spread_pairs ps n (intervals ns))

-- runs in ascending order, up to the last one
pub record AreRuns (count : ℕ) (ns : List ℕ) : Type 0 where
  pub ascending : AscendsFrom 1 ns
  pub within : (c : ℕ) → Has c ns → c ≤ count

-- an interval of a list
pub pair_at : (low : ℕ) (s : List (ℕ × ℕ)) (i : ℕ) → IsFrom low s → i < length s → (low ≤ (get_or s i (0, 0)).0) × ((get_or s i (0, 0)).0 ≤ (get_or s i (0, 0)).1) × ((get_or s i (0, 0)).1 ≤ last_of s)
pair_at low [] i c lt = absurd (omega (arith, lt))
pair_at low (p ∷ s) zero c lt = (c.0, c.1, order_last low p s c)
pair_at low (p ∷ s) (suc i) c lt =
    let rest = pair_at (p.1 + 2) s i c.2 (omega (arith, lt)) in
    let first = c.0 in
    let order = c.1 in
    let from = rest.0 in
    (omega (arith, first, order, from), rest.1, last_past p s i (omega (arith, lt)) rest.2)
  where
    last_past : (p : ℕ × ℕ) (s : List (ℕ × ℕ)) (i : ℕ) → i < length s → (get_or s i (0, 0)).1 ≤ last_of s → (get_or s i (0, 0)).1 ≤ last_of (p ∷ s)
    last_past p [] i lt le = absurd (omega (arith, lt))
    last_past p (q ∷ s) i lt le = le

-- the first of some intervals
front_from : (low : ℕ) (f : ℕ × ℕ → ℕ × ℕ) (k : ℕ) (s : List (ℕ × ℕ)) → IsFrom low (map f s) → IsFrom low (map f (take k s))
front_from low f zero s c = tt
front_from low f (suc k) [] c = tt
front_from low f (suc k) (p ∷ s) c = (c.0, c.1, front_from ((f p).1 + 2) f k s c.2)

module _ (ps : List ℕ) (n : ℕ) (h : AreStarts ps n) where
  -- ---- intervals

  spread_from : (low high : ℕ) (s : List (ℕ × ℕ)) → 1 ≤ low → ((a : ℕ) → low ≤ a → a ≤ length ps → high ≤ start_of ps n a) → IsFrom low s → last_of s ≤ length ps → IsFrom high (spread_pairs ps n s)
  spread_from low high [] some f c most = tt
  spread_from low high (p ∷ s) some f c most =
      let last = order_last low p s c in
      let first = c.0 in
      let order = c.1 in (
        f p.0 first (omega (arith, last, most, order)),
        start_end ps n h p.0 p.1 (omega (arith, some, first)) order (omega (arith, last, most)),
        spread_from (p.1 + 2) (end_of ps n p.1 + 2) s (omega arith) (λ a low most. next p.1 a low most) c.2 (later_last p s (length ps) most),
      )
    where
      next : (b a : ℕ) → b + 2 ≤ a → a ≤ length ps → end_of ps n b + 2 ≤ start_of ps n a
      next b a low most =
          let apart = end_start ps n h b (b + 1) (omega arith) (omega (arith, low, most)) in
          let order = start_end ps n h (b + 1) (b + 1) (omega arith) (omega arith) (omega (arith, low, most)) in
          let again = end_start ps n h (b + 1) a (omega (arith, low)) most in
          omega (arith, apart, order, again)

  pub spread_canonical : (s : List (ℕ × ℕ)) → IsCanonical s → last_of s ≤ length ps → IsCanonical (spread_pairs ps n s)
  spread_canonical s c most = spread_from 1 1 s (omega arith) (λ a low high. (start_in ps n h a low high).0) c most

  spread_covers : (low : ℕ) (s : List (ℕ × ℕ)) (i : ℕ) → i ≤ n → 1 ≤ low → IsFrom low s → covers (spread_pairs ps n s) i ≡ covers s (run_of ps i)
  spread_covers low [] i most some c = refl
  spread_covers low (p ∷ s) i most some c =
      let first = c.0 in
      let from : leb (start_of ps n p.0) i ≡ leb p.0 (run_of ps i) = same_test (start_of ps n p.0) i p.0 (run_of ps i) (begun ps n h i p.0 most (omega (arith, some, first))) (begins ps n h i p.0 (omega (arith, some, first))) in
      let to : leb i (end_of ps n p.1) ≡ leb (run_of ps i) p.1 = same_test i (end_of ps n p.1) (run_of ps i) p.1 (ended ps n h i p.1 most) (ends ps n h i p.1 most) in
      let rest = spread_covers (p.1 + 2) s i most (omega arith) c.2 in
      λ j. (from j && to j) || rest j

  -- a number is in a spread set exactly where its run is in the set
  pub spread_has : (s : List (ℕ × ℕ)) (i : ℕ) → i ≤ n → IsCanonical s → has (members (spread_pairs ps n s)) i ≡ has (members s) (run_of ps i)
  spread_has s i most c = has-members (spread_pairs ps n s) i ∙ spread_covers 1 s i most (omega arith) c ∙ sym (has-members s (run_of ps i))

  covers_most : (s : List (ℕ × ℕ)) (i : ℕ) → n < i → covers (spread_pairs ps n s) i ≡ false
  covers_most [] i lt = refl
  covers_most (p ∷ s) i lt =
      let most = end_in ps n h p.1 in
      let rest = covers_most s i lt in
      past (start_of ps n p.0) (end_of ps n p.1) i (covers (spread_pairs ps n s) i) (omega (arith, most, lt)) rest
    where
      past : (a b i : ℕ) (t : Bool) → b < i → t ≡ false → ((leb a i && leb i b) || t) ≡ false
      past a b i t lt e = grind (arith, nat_tests)

  -- and no number is past the last run
  pub spread_most : (s : List (ℕ × ℕ)) (i : ℕ) → Has i (members (spread_pairs ps n s)) → i ≤ n
  spread_most s i m =
      elim (cases_lt n i) [
        | inl lt ↦ absurd (true≢false (sym (Has-has (members (spread_pairs ps n s)) i m) ∙ has-members (spread_pairs ps n s) i ∙ covers_most s i lt))
        | inr le ↦ le
      ]

  -- the next interval may stand behind those before it
  pub spread_next : (items s : List (ℕ × ℕ)) (i : ℕ) → items ≡ s → IsCanonical s → last_of s ≤ length ps → i < length items
      → (spread_pairs ps n (take (i + 1) items) ≡ spread_pairs ps n (take i items) ++ spread_pair ps n (get_or items i (0, 0)) ∷ []) × IsCanonical (spread_pairs ps n (take i items) ++ spread_pair ps n (get_or items i (0, 0)) ∷ [])
  spread_next items s i e c most lt =
      let grown : spread_pairs ps n (take (i + 1) items) ≡ spread_pairs ps n (take i items) ++ spread_pair ps n (get_or items i (0, 0)) ∷ [] =
      ap (map (spread_pair ps n)) (take_more items i (0, 0) lt) ∙ map-append (spread_pair ps n) (take i items) (get_or items i (0, 0) ∷ []) in
      let all : IsCanonical (spread_pairs ps n items) = subst (λ z. IsCanonical (spread_pairs ps n z)) (sym e) (spread_canonical s c most) in
      (grown, subst IsCanonical grown (front_from 1 (spread_pair ps n) (i + 1) items all))
