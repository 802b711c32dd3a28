-- Runs in ascending order, spread to numbers.
use Rattle.std.proofs.Common.{◌≡◌, ◌≢◌, ℕ, zero, suc, Some, None, ◌+◌, ◌<◌, ◌≤◌, true, false, List, [], ◌∷◌, length, refl, sym, ap, subst, ◌∙◌, arith, inl, inr}
use Rattle.std.proofs.lemmas.Bool.{cases_lt}
use Rattle.std.specs.List.{range_with_len}
use Rattle.version_set.specs.Pairs.{IsCanonical, last_of}
use Rattle.version_set.specs.Members.{AscendsFrom, has, intervals, members}
use Rattle.version_set.proofs.Sets.{last_below}
use Rattle.version_set.proofs.MembersLemmas.{IsFrom-intervals, intervals-members, members_ascend, members-intervals, not_below, same_numbers}
use Rattle.keyed_tree.specs.Lists.{Has}
use Rattle.jsonml_tree.proofs.Lists.{has_all}
use Rattle.archive_tree.specs.Data.{Stamp, eff}
use Rattle.archive_tree.specs.Stands.{head_or}
use Rattle.archive_tree.proofs.Numbers.{has-Has, Has-has, range_has, has_range}
use Rattle.version_runs.specs.Runs.{AreStarts, run_of, start_of}
use Rattle.version_runs.specs.Spread.{spread_pairs, spread_stamp, IsStampWithin}
use Rattle.version_runs.proofs.RunLemmas.{least_of, rises, run_at, start_in, some_run, run_within}
use Rattle.version_runs.proofs.Sets.{AreRuns, spread_numbers, spread_canonical, spread_has, spread_most}

some_first : (ns : List ℕ) → ns ≢ [] → (c : ℕ) × Has c ns
some_first [] h = absurd (h refl)
some_first (n ∷ ns) h = (n, inl refl)

none_has : (c : ℕ) (ns : List ℕ) → Has c ns → ns ≢ []
none_has c [] m e = absurd m
none_has c (n ∷ ns) m e = cc

head_is_least : (low : ℕ) (ns : List ℕ) (c : ℕ) → AscendsFrom low ns → Has c ns → head_or 0 ns ≤ c
head_is_least low [] c h m = absurd m
head_is_least low (n ∷ ns) c h m = least_of n c (n ∷ ns) (omega arith, h.1) m

has_head : (ns : List ℕ) (c : ℕ) → Has c ns → Has (head_or 0 ns) ns
has_head [] c m = absurd m
has_head (n ∷ ns) c m = inl refl

none_of : (ns : List ℕ) (c : ℕ) → ¬ (Has c ns) → has ns c ≡ false
none_of ns c h = elim (has ns c) as (λ b. has ns c ≡ b → b ≡ false) [ true ↦ λ e. absurd (h (has-Has ns c e)) | false ↦ λ e. refl ] refl

-- the numbers from 1 on
pub AreRuns-range : (c : ℕ) → AreRuns c (range_with_len 1 c)
AreRuns-range c = record { ascending = up 1 1 c (omega arith); within = λ k m. (let at = (range_has 1 c k m).1 in omega (arith, at)) }
  where
    up : (low n k : ℕ) → low ≤ n → AscendsFrom low (range_with_len n k)
    up low n zero h = tt
    up low n (suc k) h = (h, up (n + 1) (n + 1) k (omega arith))

module _ (ps : List ℕ) (n : ℕ) (h : AreStarts ps n) where
  AreRuns-canonical : (ns : List ℕ) → AreRuns (length ps) ns → IsCanonical (intervals ns) × (last_of (intervals ns) ≤ length ps)
  AreRuns-canonical ns r = (
      let c : IsCanonical (intervals ns) = IsFrom-intervals 1 ns r.ascending in
      let same : members (intervals ns) ≡ ns = members-intervals 1 ns r.ascending in
      let all = has_all (λ m. m < length ps + 1) (members (intervals ns)) (λ m i. (let le = r.within m (subst (Has m) same i) in omega (arith, le))) in
      let last = last_below (intervals ns) (length ps + 1) c (omega arith) all in
      (c, omega (arith, last)))

  pub numbers_ascend : (ns : List ℕ) → AreRuns (length ps) ns → AscendsFrom 1 (spread_numbers ps n ns)
  numbers_ascend ns r = (let c = AreRuns-canonical ns r in members_ascend 1 (spread_pairs ps n (intervals ns)) (spread_canonical ps n h (intervals ns) c.0 c.1))

  -- a number is one of the spread ones exactly where its run is one of the runs
  pub numbers_has : (ns : List ℕ) (i : ℕ) → i ≤ n → AreRuns (length ps) ns → has (spread_numbers ps n ns) i ≡ has ns (run_of ps i)
  numbers_has ns i most r = spread_has ps n h (intervals ns) i most (AreRuns-canonical ns r).0 ∙ ap (λ ms. has ms (run_of ps i)) (members-intervals 1 ns r.ascending)

  pub numbers_in : (ns : List ℕ) (i : ℕ) → AreRuns (length ps) ns → Has i (spread_numbers ps n ns) → (1 ≤ i) × (i ≤ n)
  numbers_in ns i r m = (least_of 1 i (spread_numbers ps n ns) (numbers_ascend ns r) m, spread_most ps n h (intervals ns) i m)

  pub number_run : (ns : List ℕ) (i : ℕ) → AreRuns (length ps) ns → Has i (spread_numbers ps n ns) → Has (run_of ps i) ns
  number_run ns i r m = has-Has ns (run_of ps i) (sym (numbers_has ns i (numbers_in ns i r m).1 r) ∙ Has-has (spread_numbers ps n ns) i m)

  pub run_number : (ns : List ℕ) (i : ℕ) → i ≤ n → AreRuns (length ps) ns → Has (run_of ps i) ns → Has i (spread_numbers ps n ns)
  run_number ns i most r m = has-Has (spread_numbers ps n ns) i (numbers_has ns i most r ∙ Has-has ns (run_of ps i) m)

  -- a run that is one of them has its first number
  pub start_number : (ns : List ℕ) (c : ℕ) → AreRuns (length ps) ns → Has c ns → Has (start_of ps n c) (spread_numbers ps n ns)
  start_number ns c r m =
      let some = least_of 1 c ns r.ascending m in
      let most = r.within c m in
      run_number ns (start_of ps n c) (start_in ps n h c some most).1 r (subst (λ k. Has k ns) (sym (run_at ps n h c some most)) m)

  pub numbers_some : (ns : List ℕ) → AreRuns (length ps) ns → ns ≢ [] → spread_numbers ps n ns ≢ []
  numbers_some ns r some = (let first = some_first ns some in none_has (start_of ps n first.0) (spread_numbers ps n ns) (start_number ns first.0 r first.1))

  -- runs are known by their numbers
  pub numbers_injective : (ns ms : List ℕ) → AreRuns (length ps) ns → AreRuns (length ps) ms → spread_numbers ps n ns ≡ spread_numbers ps n ms → ns ≡ ms
  numbers_injective ns ms r s e = same_numbers 1 1 ns ms r.ascending s.ascending (λ c. elim (cases_lt c 1) [
    | inl lt ↦ not_below 1 ns c r.ascending lt ∙ sym (not_below 1 ms c s.ascending lt)
    | inr some ↦ elim (cases_lt (length ps) c) [
      | inl past ↦ (
          let left : has ns c ≡ false = none_of ns c (λ m. (let le = r.within c m in omega (arith, le, past))) in
          let right : has ms c ≡ false = none_of ms c (λ m. (let le = s.within c m in omega (arith, le, past))) in
          left ∙ sym right)
      | inr most ↦ (
          let at = run_at ps n h c some most in
          let in_n = (start_in ps n h c some most).1 in
          ap (has ns) (sym at) ∙ sym (numbers_has ns (start_of ps n c) in_n r) ∙ ap (λ ks. has ks (start_of ps n c)) e ∙ numbers_has ms (start_of ps n c) in_n s ∙ ap (has ms) at)
    ]
  ])

  -- all runs have all numbers
  pub numbers_all : spread_numbers ps n (range_with_len 1 (length ps)) ≡ range_with_len 1 n
  numbers_all =
      let all = AreRuns-range (length ps) in
      same_numbers 1 1 (spread_numbers ps n (range_with_len 1 (length ps))) (range_with_len 1 n) (numbers_ascend (range_with_len 1 (length ps)) all) (AreRuns-range n).ascending (λ i. elim (cases_lt n i) [
        | inl past ↦ (
            let left : has (spread_numbers ps n (range_with_len 1 (length ps))) i ≡ false = none_of (spread_numbers ps n (range_with_len 1 (length ps))) i (λ m. (let le = (numbers_in (range_with_len 1 (length ps)) i all m).1 in omega (arith, le, past))) in
            let right : has (range_with_len 1 n) i ≡ false = none_of (range_with_len 1 n) i (λ m. (let le = (range_has 1 n i m).1 in omega (arith, le, past))) in
            left ∙ sym right)
        | inr most ↦ elim (cases_lt i 1) [
          | inl lt ↦ not_below 1 (spread_numbers ps n (range_with_len 1 (length ps))) i (numbers_ascend (range_with_len 1 (length ps)) all) lt ∙ sym (not_below 1 (range_with_len 1 n) i (AreRuns-range n).ascending lt)
          | inr some ↦ (
              let run = some_run ps n h i some most in
              let last = run_within ps i in
              numbers_has (range_with_len 1 (length ps)) i most all
              ∙ Has-has (range_with_len 1 (length ps)) (run_of ps i) (has_range 1 (length ps) (run_of ps i) run (omega (arith, last)))
              ∙ sym (Has-has (range_with_len 1 n) i (has_range 1 n i some (omega (arith, most)))))
        ]
      ])

  -- the first number is in the first run
  pub head_run : (ns : List ℕ) → AreRuns (length ps) ns → ns ≢ [] → run_of ps (head_or 0 (spread_numbers ps n ns)) ≡ head_or 0 ns
  head_run ns r some =
      let first = some_first ns some in
      let c = head_or 0 ns in
      let there : Has c ns = has_head ns first.0 first.1 in
      let at : Has (start_of ps n c) (spread_numbers ps n ns) = start_number ns c r there in
      let least : head_or 0 (spread_numbers ps n ns) ≤ start_of ps n c = head_is_least 1 (spread_numbers ps n ns) (start_of ps n c) (numbers_ascend ns r) at in
      let head : Has (head_or 0 (spread_numbers ps n ns)) (spread_numbers ps n ns) = has_head (spread_numbers ps n ns) (start_of ps n c) at in
      let low : c ≤ run_of ps (head_or 0 (spread_numbers ps n ns)) = head_is_least 1 ns (run_of ps (head_or 0 (spread_numbers ps n ns))) r.ascending (number_run ns (head_or 0 (spread_numbers ps n ns)) r head) in
      let positive = least_of 1 c ns r.ascending there in
      let most = r.within c there in
      let within = (start_in ps n h c positive most).1 in
      let up = rises ps n h (head_or 0 (spread_numbers ps n ns)) (start_of ps n c) within least in
      let same = run_at ps n h c positive most in
      omega (arith, low, up, same)

  pub head_in : (ns : List ℕ) → AreRuns (length ps) ns → ns ≢ [] → head_or 0 (spread_numbers ps n ns) ≤ n
  head_in ns r some = (
      let first = some_first ns some in
      let at = start_number ns first.0 r first.1 in
      (numbers_in ns (head_or 0 (spread_numbers ps n ns)) r (has_head (spread_numbers ps n ns) (start_of ps n first.0) at)).1)

  -- ---- what a stamp stands for

  pub eff_spread : (s : Stamp) (ns : List ℕ) → IsStampWithin (length ps) s → eff (spread_stamp ps n s) (spread_numbers ps n ns) ≡ spread_numbers ps n (eff s ns)
  eff_spread None ns w = refl
  eff_spread (Some s) ns w = ap (λ t. members (spread_pairs ps n t)) (sym (intervals-members 1 s w.0))
