-- Numbered trees whose numbers are left, counted anew.
use Rattle.std.proofs.Common.{◌≡◌, ◌≢◌, ℕ, zero, suc, ◌+◌, ◌-◌, ◌≤◌, Bool, true, false, cond, List, [], ◌∷◌, map, filter, take, drop, Option, Some, None, refl, ap, sym, subst, ◌∙◌, arith, inl, inr}
use Rattle.std.specs.List.{AllByRecursion, enumerate_from}
use Rattle.std.proofs.lemmas.Bool.{cases_lt}
use Rattle.std.specs.Ordering.{nat_cmp}
use Rattle.keyed_tree.specs.Data.{PlainKey, PlainKeyed}
use Rattle.keyed_tree.specs.Lists.{Ascends}
use Rattle.archive_tree.specs.Stands.{nums, those, passed, has_body, nums_with, numbered}
use Rattle.archive_tree.proofs.Those.{onto}
use Rattle.archive_cut.specs.Sliced.{is_between, clipped, items}
use Rattle.archive_cut.proofs.Clips.{is_in, is_below, is_above, clipped_rise}

abbrev one : List (ℕ × PlainKeyed) → ℕ → Bool → Option PlainKeyed → List (ℕ × PlainKeyed)
one rest m b o = cond b (onto m o rest) rest

abbrev two : List (ℕ × PlainKeyed) → ℕ → Bool → Option PlainKeyed → List (ℕ × PlainKeyed)
two rest m b None = rest
two rest m b (Some k) = cond b ((m, k) ∷ rest) rest

module _ (i j : ℕ) where
  -- the trees of the numbers from i to j, counted from i
  abbrev pub window : List (ℕ × PlainKeyed) → List (ℕ × PlainKeyed)
  window [] = []
  window (w ∷ ws) = cond (is_between i j w.0) ((w.0 + 1 - i, w.1) ∷ window ws) (window ws)

  pub nums-window : (ws : List (ℕ × PlainKeyed)) → nums (window ws) ≡ clipped i j (nums ws)
  nums-window [] = refl
  nums-window (w ∷ ws) =
      let rest = nums-window ws in
      elim (is_between i j w.0) as (λ b. nums (cond b ((w.0 + 1 - i, w.1) ∷ window ws) (window ws)) ≡ map (λ m. m + 1 - i) (cond b (w.0 ∷ filter (is_between i j) (nums ws)) (filter (is_between i j) (nums ws)))) [
        | true ↦ ap (λ z. (w.0 + 1 - i) ∷ z) rest
        | false ↦ rest
      ]

  pub window_rises : (ws : List (ℕ × PlainKeyed)) → Ascends nat_cmp (nums ws) → Ascends nat_cmp (nums (window ws))
  window_rises ws a = subst (Ascends nat_cmp) (sym (nums-window ws)) (clipped_rise i j (nums ws) a)

  -- what is picked of what is left is left of what is picked
  pub those-window : (f : PlainKeyed → Option PlainKeyed) (ws : List (ℕ × PlainKeyed)) → those f (window ws) ≡ window (those f ws)
  those-window f [] = refl
  those-window f (w ∷ ws) = picked (is_between i j w.0) ∙ same (those-window f ws) (is_between i j w.0) (f w.1) ∙ sym (kept (f w.1))
    where
      picked : (b : Bool) → those f (cond b ((w.0 + 1 - i, w.1) ∷ window ws) (window ws)) ≡ one (those f (window ws)) (w.0 + 1 - i) b (f w.1)
      picked true = refl
      picked false = refl

      kept : (o : Option PlainKeyed) → window (onto w.0 o (those f ws)) ≡ two (window (those f ws)) (w.0 + 1 - i) (is_between i j w.0) o
      kept None = refl
      kept (Some k) = refl

      same : those f (window ws) ≡ window (those f ws) → (b : Bool) (o : Option PlainKeyed) → one (those f (window ws)) (w.0 + 1 - i) b o ≡ two (window (those f ws)) (w.0 + 1 - i) b o
      same rest true None = rest
      same rest false None = rest
      same rest true (Some k) = ap (λ z. (w.0 + 1 - i, k) ∷ z) rest
      same rest false (Some k) = rest

  pub nums_with-window : (ws : List (ℕ × PlainKeyed)) (b : PlainKey) → nums_with (window ws) b ≡ clipped i j (nums_with ws b)
  nums_with-window ws b = ap nums (those-window (passed (has_body b)) ws) ∙ nums-window (those (passed (has_body b)) ws)

  pub all_window : (P : PlainKeyed → Type 0) (ws : List (ℕ × PlainKeyed)) → AllByRecursion (λ w. P w.1) ws → AllByRecursion (λ w. P w.1) (window ws)
  all_window P [] h = tt
  all_window P (w ∷ ws) h =
      let rest = all_window P ws h.1 in
      elim (is_between i j w.0) as (λ b. AllByRecursion (λ w. P w.1) (cond b ((w.0 + 1 - i, w.1) ∷ window ws) (window ws))) [ true ↦ (h.0, rest) | false ↦ rest ]

  pub window_of : (ws : List (ℕ × PlainKeyed)) → window ws ≢ [] → ws ≢ []
  window_of [] h = h
  window_of (w ∷ ws) h = λ e. cc

  pub clipped_some : (ws : List (ℕ × PlainKeyed)) → window ws ≢ [] → clipped i j (nums ws) ≢ []
  clipped_some ws h e = no_nums (window ws) h (nums-window ws ∙ e)
    where
      no_nums : (ws : List (ℕ × PlainKeyed)) → ws ≢ [] → nums ws ≢ []
      no_nums [] h e = h refl
      no_nums (w ∷ ws) h e = cc

  pub some_clipped : (ws : List (ℕ × PlainKeyed)) → clipped i j (nums ws) ≢ [] → window ws ≢ []
  some_clipped ws h e = h (sym (nums-window ws) ∙ ap nums e)

  -- ---- versions

  past : (n : ℕ) (vs : List PlainKeyed) → i ≤ n → window (enumerate_from n vs) ≡ enumerate_from (n + 1 - i) (take (j + 1 - n) vs)
  past n [] h = nothing (j + 1 - n)
    where
      nothing : (k : ℕ) → [] ≡ enumerate_from (n + 1 - i) (take {A = PlainKeyed} k [])
      nothing zero = refl
      nothing (suc k) = refl
  past n (v ∷ vs) h = elim (cases_lt j n) [
    | inl lt ↦
        let none : j + 1 - n ≡ 0 = omega arith in
        let none' : j + 1 - (n + 1) ≡ 0 = omega arith in
        let e = is_above i j n lt in
        let rest = past (n + 1) vs (omega arith) in
        rw (e, none) (rest ∙ ap (λ k. enumerate_from (n + 1 + 1 - i) (take k vs)) none')
    | inr le ↦
        let some : j + 1 - n ≡ suc (j + 1 - (n + 1)) = omega arith in
        let next : n + 1 + 1 - i ≡ n + 1 - i + 1 = omega arith in
        let e = is_in i j n h le in
        let rest = past (n + 1) vs (omega arith) in
        rw (e, some) (ap (λ z. (n + 1 - i, v) ∷ z) (rest ∙ ap (λ k. enumerate_from k (take (j + 1 - (n + 1)) vs)) next))
  ]

  -- the first numbers are passed over
  over : (n d : ℕ) (vs : List PlainKeyed) → n + d ≡ i → window (enumerate_from n vs) ≡ enumerate_from 1 (take (j + 1 - i) (drop d vs))
  over n zero vs h =
      let same : n ≡ i = omega arith in
      let one : n + 1 - i ≡ 1 = omega arith in
      past n vs (omega arith) ∙ ap (λ k. enumerate_from k (take (j + 1 - n) vs)) one ∙ ap (λ k. enumerate_from 1 (take (j + 1 - k) vs)) same
  over n (suc d) [] h = nothing (j + 1 - i)
    where
      nothing : (k : ℕ) → [] ≡ enumerate_from 1 (take {A = PlainKeyed} k [])
      nothing zero = refl
      nothing (suc k) = refl
  over n (suc d) (v ∷ vs) h = (let e = is_below i j n (omega arith) in rw e (over (n + 1) d vs (omega arith)))

  pub window-numbered : (vs : List PlainKeyed) → 1 ≤ i → window (numbered vs) ≡ numbered (items i j vs)
  window-numbered vs h = over 1 (i - 1) vs (omega arith)
