-- Lists with one version of each run, and with the versions of all numbers.
use Rattle.std.proofs.Common.{◌≡◌, ℕ, zero, suc, ◌+◌, ◌-◌, ◌<◌, ◌≤◌, List, [], ◌∷◌, ◌++◌, length, get_or, Option, Some, None, IsSome, true≢false, replicate, slice_get, refl, sym, ap, ◌∙◌, arith, inl, inr, length-append}
use Rattle.std.proofs.lemmas.Bool.{cases_lt}
use Rattle.std.proofs.lemmas.List.{length-replicate}
use Rattle.std.specs.List.{AllByRecursion, cons_option}
use Rattle.version_set.specs.Members.{AscendsFrom}
use Rattle.keyed_tree.specs.Data.{PlainKeyed}
use Rattle.archive_tree.specs.Stands.{version_of}
use Rattle.version_runs.specs.Runs.{AreStarts, run_of, start_of, versions_at}
use Rattle.version_runs.specs.Spread.{spread_list}
use Rattle.version_runs.proofs.RunLemmas.{before_first, from_first, starts_with}

-- ---- equal items, and others behind them

same_in : (k j : ℕ) (u : PlainKeyed) (us : List PlainKeyed) → j < k → slice_get (replicate k u ++ us) j ≡ Some u
same_in zero j u us lt = absurd (omega (arith, lt))
same_in (suc k) zero u us lt = refl
same_in (suc k) (suc j) u us lt = same_in k j u us (omega (arith, lt))

same_past : (k j : ℕ) (u : PlainKeyed) (us : List PlainKeyed) → slice_get (replicate k u ++ us) (k + j) ≡ slice_get us j
same_past zero j u us = (let e : 0 + j ≡ j = omega arith in ap (slice_get us) e)
same_past (suc k) j u us = (let e : suc k + j ≡ suc (k + j) = omega arith in ap (slice_get (u ∷ (replicate k u ++ us))) e ∙ same_past k j u us)

-- ---- spread lists

item_in_run : (n p : ℕ) (ps : List ℕ) (us : List PlainKeyed) (i : ℕ) → AscendsFrom (p + 1) ps → p ≤ i → i ≤ n → slice_get (spread_list (p ∷ ps) n us) (i - p) ≡ slice_get us (run_of ps i)
item_in_run n p ps [] i h le most = refl
item_in_run n p [] (u ∷ us) i h le most = same_in (n + 1 - p) (i - p) u [] (omega (arith, le, most))
item_in_run n p (q ∷ qs) (u ∷ us) i h le most =
    let apart = h.0 in
    elim (cases_lt i q) [
      | inl lt ↦ (
          let none : run_of (q ∷ qs) i ≡ 0 = before_first q (q ∷ qs) i (omega arith, h.1) lt in
          same_in (q - p) (i - p) u (spread_list (q ∷ qs) n us) (omega (arith, lt, le)) ∙ sym (ap (slice_get (u ∷ us)) none))
      | inr from ↦ (
          let e : i - p ≡ (q - p) + (i - q) = omega (arith, from, apart) in
          ap (slice_get (spread_list (p ∷ q ∷ qs) n (u ∷ us))) e ∙ same_past (q - p) (i - q) u (spread_list (q ∷ qs) n us)
          ∙ item_in_run n q qs us i h.1 from most ∙ sym (ap (slice_get (u ∷ us)) (from_first q qs i from)))
    ]

length_from : (n p : ℕ) (ps : List ℕ) (us : List PlainKeyed) → AscendsFrom (p + 1) ps → AllByRecursion (λ q. q ≤ n) (p ∷ ps) → length us ≡ length (p ∷ ps) → length (spread_list (p ∷ ps) n us) + p ≡ n + 1
length_from n p ps [] h w e = cc
length_from n p [] (u ∷ us) h w e =
    let most = w.0 in
    let all = length-append (replicate (n + 1 - p) u) [] in
    let each = length-replicate (n + 1 - p) u in
    omega (arith, most, all, each)
length_from n p (q ∷ qs) (u ∷ us) h w e =
    let apart = h.0 in
    let rest = length_from n q qs us h.1 w.1 (omega (arith, e)) in
    let all = length-append (replicate (q - p) u) (spread_list (q ∷ qs) n us) in
    let each = length-replicate (q - p) u in
    omega (arith, apart, rest, all, each)

-- ---- lists with the same versions

same_items : (vs us : List PlainKeyed) → length vs ≡ length us → ((j : ℕ) → j < length vs → slice_get vs j ≡ slice_get us j) → vs ≡ us
same_items [] [] e f = refl
same_items [] (u ∷ us) e f = cc
same_items (v ∷ vs) [] e f = cc
same_items (v ∷ vs) (u ∷ us) e f =
    let some : Some v ≡ Some u = f 0 (omega arith) in
    let first : v ≡ u = cc in
    let rest = same_items vs us (omega (arith, e)) (λ j lt. f (suc j) (omega (arith, lt))) in
    λ i. first i ∷ rest i

pub same_versions : (vs us : List PlainKeyed) → length vs ≡ length us → ((i : ℕ) → 1 ≤ i → i ≤ length vs → version_of vs i ≡ version_of us i) → vs ≡ us
same_versions vs us e f = same_items vs us e (λ j lt. f (suc j) (omega arith) (omega (arith, lt)))

pub some_version : (vs : List PlainKeyed) (i : ℕ) → 1 ≤ i → i ≤ length vs → IsSome (version_of vs i)
some_version vs zero some most = absurd (omega (arith, some))
some_version vs (suc j) some most = there vs j (omega (arith, most))
  where
    there : (vs : List PlainKeyed) (j : ℕ) → j < length vs → IsSome (slice_get vs j)
    there [] j lt = absurd (omega (arith, lt))
    there (v ∷ vs) zero lt = refl
    there (v ∷ vs) (suc j) lt = there vs j (omega (arith, lt))

module _ (ps : List ℕ) (n : ℕ) (h : AreStarts ps n) where
  -- the version of a number is that of its run
  pub spread_version : (us : List PlainKeyed) (i : ℕ) → 1 ≤ i → i ≤ n → version_of (spread_list ps n us) i ≡ version_of us (run_of ps i)
  spread_version us i some most = go ps us i h.ascending (starts_with 1 1 ps n h.ascending (h.first (omega (arith, some, most)))) some most
    where
      go : (qs : List ℕ) (us : List PlainKeyed) (i : ℕ) → AscendsFrom 1 qs → get_or qs 0 (n + 1) ≤ 1 → 1 ≤ i → i ≤ n → version_of (spread_list qs n us) i ≡ version_of us (run_of qs i)
      go [] us i a least some most = absurd (omega (arith, least, some, most))
      go (q ∷ qs) us zero a least some most = absurd (omega (arith, some))
      go (q ∷ qs) us (suc j) a least some most =
          let low = a.0 in
          let high : q ≤ 1 = least in
          let e : suc j - q ≡ j = omega (arith, low, high) in
          let from : q ≤ suc j = omega (arith, high) in
          ap (slice_get (spread_list (q ∷ qs) n us)) (sym e) ∙ item_in_run n q qs us (suc j) a.1 from most ∙ sym (ap (version_of us) (from_first q qs (suc j) from))

  pub spread_length : (us : List PlainKeyed) → length us ≡ length ps → length (spread_list ps n us) ≡ n
  spread_length us e = elim (cases_lt 0 n) [
    | inl lt ↦ go ps us h.ascending h.within e (starts_with 1 1 ps n h.ascending (h.first (omega (arith, lt)))) lt
    | inr none ↦ empty ps us h.ascending h.within (omega (arith, none))
  ]
    where
      go : (qs : List ℕ) (us : List PlainKeyed) → AscendsFrom 1 qs → AllByRecursion (λ q. q ≤ n) qs → length us ≡ length qs → get_or qs 0 (n + 1) ≤ 1 → 0 < n → length (spread_list qs n us) ≡ n
      go [] us a w e least lt = absurd (omega (arith, least, lt))
      go (q ∷ qs) us a w e least lt = (let low = a.0 in let high : q ≤ 1 = least in let all = length_from n q qs us a.1 w e in omega (arith, low, high, all))

      empty : (qs : List ℕ) (us : List PlainKeyed) → AscendsFrom 1 qs → AllByRecursion (λ q. q ≤ n) qs → n ≡ 0 → length (spread_list qs n us) ≡ n
      empty [] us a w e = sym e
      empty (q ∷ qs) us a w e = absurd (let low = a.0 in let high = w.0 in omega (arith, low, high, e))

-- ---- the first version of each run

versions_cons : (p : ℕ) (ps : List ℕ) (vs : List PlainKeyed) (v : PlainKeyed) → version_of vs p ≡ Some v → versions_at (p ∷ ps) vs ≡ v ∷ versions_at ps vs
versions_cons p ps vs v e = ap (λ o. cons_option o (versions_at ps vs)) e

the_version : (o : Option PlainKeyed) → IsSome o → (v : PlainKeyed) × (o ≡ Some v)
the_version None h = absurd (true≢false (sym h))
the_version (Some v) h = (v, refl)

versions_item : (ps : List ℕ) (vs : List PlainKeyed) (j d : ℕ) → AllByRecursion (λ p. IsSome (version_of vs p)) ps → j < length ps → slice_get (versions_at ps vs) j ≡ version_of vs (get_or ps j d)
versions_item [] vs j d all lt = absurd (omega (arith, lt))
versions_item (p ∷ ps) vs zero d all lt = (let v = the_version (version_of vs p) all.0 in ap (λ ws. slice_get ws 0) (versions_cons p ps vs v.0 v.1) ∙ sym v.1)
versions_item (p ∷ ps) vs (suc j) d all lt =
    let v = the_version (version_of vs p) all.0 in
    ap (λ ws. slice_get ws (suc j)) (versions_cons p ps vs v.0 v.1) ∙ versions_item ps vs j d all.1 (omega (arith, lt))

versions_count : (ps : List ℕ) (vs : List PlainKeyed) → AllByRecursion (λ p. IsSome (version_of vs p)) ps → length (versions_at ps vs) ≡ length ps
versions_count [] vs all = refl
versions_count (p ∷ ps) vs all = (let v = the_version (version_of vs p) all.0 in ap (λ (ws : List PlainKeyed). length ws) (versions_cons p ps vs v.0 v.1) ∙ ap suc (versions_count ps vs all.1))

all_there : (ps : List ℕ) (vs : List PlainKeyed) (low : ℕ) → 1 ≤ low → AscendsFrom low ps → AllByRecursion (λ p. p ≤ length vs) ps → AllByRecursion (λ p. IsSome (version_of vs p)) ps
all_there [] vs low some a w = tt
all_there (p ∷ ps) vs low some a w = (let first = a.0 in (some_version vs p (omega (arith, some, first)) w.0, all_there ps vs (p + 1) (omega arith) a.1 w.1))

module _ (ps : List ℕ) (vs : List PlainKeyed) (h : AreStarts ps (length vs)) where
  pub first_version : (c : ℕ) → 1 ≤ c → c ≤ length ps → version_of (versions_at ps vs) c ≡ version_of vs (start_of ps (length vs) c)
  first_version zero some most = absurd (omega (arith, some))
  first_version (suc j) some most =
      let e : j ≡ suc j - 1 = omega arith in
      versions_item ps vs j (length vs + 1) (all_there ps vs 1 (omega arith) h.ascending h.within) (omega (arith, most)) ∙ ap (λ k. version_of vs (get_or ps k (length vs + 1))) e

  pub first_versions : length (versions_at ps vs) ≡ length ps
  first_versions = versions_count ps vs (all_there ps vs 1 (omega arith) h.ascending h.within)
