-- Rows with new nodes among theirs.
use Rattle.std.proofs.Common.{◌≡◌, ℕ, ◌+◌, ◌-◌, ◌<◌, ◌≤◌, List, [], ◌∷◌, ◌++◌, map, length, take, drop, get_or, zero, suc, refl, ap, sym, subst, ◌∙◌, arith, append_assoc}
use Rattle.std.proofs.lemmas.List.{drop-map, drop_all, length-drop, map-append, take-map, take_all}
use Rattle.new_archive.specs.Woven.{ArePlaced, woven}

module _ {X : Type 0} where
  pub placed_in : (low high : ℕ) (fs : List (ℕ × X)) → ArePlaced low high fs → low ≤ high
  placed_in low high [] h = h
  placed_in low high (f ∷ fs) h = (let first = h.0 in let rest = placed_in f.0 high fs h.1 in omega (arith, first, rest))

  pub placed_up : (low high top : ℕ) (fs : List (ℕ × X)) → ArePlaced low high fs → high ≤ top → ArePlaced low top fs
  placed_up low high top [] h up = omega (arith, h, up)
  placed_up low high top (f ∷ fs) h up = (h.0, placed_up f.0 high top fs h.1 up)

  pub placed_behind : (low p : ℕ) (fs : List (ℕ × X)) (x : X) → ArePlaced low p fs → ArePlaced low p (fs ++ (p, x) ∷ [])
  placed_behind low p [] x h = (h, omega arith)
  placed_behind low p (f ∷ fs) x h = (h.0, placed_behind f.0 p fs x h.1)

  take_within : (d : ℕ) (xs ys : List X) → d ≤ length xs → take d (xs ++ ys) ≡ take d xs
  take_within zero xs ys h = refl
  take_within (suc d) [] ys h = absurd (omega arith)
  take_within (suc d) (x ∷ xs) ys h = ap (λ z. x ∷ z) (take_within d xs ys (omega arith))

  drop_within : (d : ℕ) (xs ys : List X) → d ≤ length xs → drop d (xs ++ ys) ≡ drop d xs ++ ys
  drop_within zero xs ys h = refl
  drop_within (suc d) [] ys h = absurd (omega arith)
  drop_within (suc d) (x ∷ xs) ys h = drop_within d xs ys (omega arith)

  -- what stands behind all that is new
  pub woven_front : (at : ℕ) (xs ys : List X) (fs : List (ℕ × X)) → ArePlaced at (at + length xs) fs → woven at (xs ++ ys) fs ≡ woven at xs fs ++ ys
  woven_front at xs ys [] h = refl
  woven_front at xs ys (f ∷ fs) h =
      let first = h.0 in
      let last = placed_in f.0 (at + length xs) fs h.1 in
      let low : f.0 - at ≤ length xs = omega (arith, first, last) in
      let many : length (drop (f.0 - at) xs) ≡ length xs - (f.0 - at) = length-drop (f.0 - at) xs in
      let end : at + length xs ≡ f.0 + length (drop (f.0 - at) xs) = omega (arith, first, last, many) in
      let front : take (f.0 - at) (xs ++ ys) ≡ take (f.0 - at) xs = take_within (f.0 - at) xs ys low in
      let rest : woven f.0 (drop (f.0 - at) (xs ++ ys)) fs ≡ woven f.0 (drop (f.0 - at) xs) fs ++ ys = ap (λ z. woven f.0 z fs) (drop_within (f.0 - at) xs ys low) ∙ woven_front f.0 (drop (f.0 - at) xs) ys fs (subst (λ z. ArePlaced f.0 z fs) end h.1) in
      (λ i. front i ++ f.1 ∷ rest i) ∙ sym (append_assoc (take (f.0 - at) xs) (f.1 ∷ woven f.0 (drop (f.0 - at) xs) fs) ys)

  -- one more, behind all
  pub woven_last : (at : ℕ) (xs : List X) (fs : List (ℕ × X)) (p : ℕ) (x : X) → ArePlaced at p fs → at + length xs ≡ p → woven at xs (fs ++ (p, x) ∷ []) ≡ woven at xs fs ++ x ∷ []
  woven_last at xs [] p x h e =
      let all : length xs ≤ p - at = omega (arith, e) in
      let front : take (p - at) xs ≡ xs = take_all (p - at) xs all in
      let rest : drop (p - at) xs ≡ [] = drop_all (p - at) xs all in
      λ i. front i ++ x ∷ rest i
  woven_last at xs (f ∷ fs) p x h e =
      let first = h.0 in
      let last = placed_in f.0 p fs h.1 in
      let many : length (drop (f.0 - at) xs) ≡ length xs - (f.0 - at) = length-drop (f.0 - at) xs in
      let end : f.0 + length (drop (f.0 - at) xs) ≡ p = omega (arith, e, first, last, many) in
      ap (λ z. take (f.0 - at) xs ++ f.1 ∷ z) (woven_last f.0 (drop (f.0 - at) xs) fs p x h.1 end) ∙ sym (append_assoc (take (f.0 - at) xs) (f.1 ∷ woven f.0 (drop (f.0 - at) xs) fs) (x ∷ []))

  -- what stands before the first stays
  none_taken : (d : ℕ) (ys : List X) (y : X) (p : ℕ) (fs : List (ℕ × X)) → d ≡ 0 → take d ys ++ y ∷ woven p (drop d ys) fs ≡ y ∷ woven p ys fs
  none_taken zero ys y p fs e = refl
  none_taken (suc d) ys y p fs e = absurd (omega (arith, e))

  woven_first : (xs : List X) (f : ℕ × X) (fs : List (ℕ × X)) → woven 0 xs (f ∷ fs) ≡ take f.0 xs ++ woven f.0 (drop f.0 xs) (f ∷ fs)
  woven_first xs f fs =
      let all : f.0 - 0 ≡ f.0 = omega arith in
      let none : f.0 - f.0 ≡ 0 = omega arith in
      (λ i. take (all i) xs ++ f.1 ∷ woven f.0 (drop (all i) xs) fs) ∙ ap (λ z. take f.0 xs ++ z) (sym (none_taken (f.0 - f.0) (drop f.0 xs) f.1 f.0 fs none))

  -- the first of what is new
  pub first_placed : (fs : List (ℕ × X)) (f : ℕ × X) (high : ℕ) → 0 < length fs → f ≡ get_or fs 0 f → ArePlaced 0 high fs → f.0 ≤ high
  first_placed [] f high some is h = absurd (omega arith)
  first_placed (g ∷ fs) f high some is h = subst (λ (z : ℕ × X). z.0 ≤ high) (sym is) (placed_in g.0 high fs h.1)

  pub first_woven : (xs : List X) (fs : List (ℕ × X)) (f : ℕ × X) → 0 < length fs → f ≡ get_or fs 0 f → take f.0 xs ++ woven f.0 (drop f.0 xs) fs ≡ woven 0 xs fs
  first_woven xs [] f some is = absurd (omega arith)
  first_woven xs (g ∷ fs) f some is = ap (λ (z : ℕ × X). take z.0 xs ++ woven z.0 (drop z.0 xs) (g ∷ fs)) is ∙ sym (woven_first xs g fs)

-- ---- through a view

module _ {X Y : Type 0} (view : X → Y) where
  pub placed_shown : (low high : ℕ) (fs : List (ℕ × X)) → ArePlaced low high (map (λ (f : ℕ × X). (f.0, view f.1)) fs) → ArePlaced low high fs
  placed_shown low high [] h = h
  placed_shown low high (f ∷ fs) h = (h.0, placed_shown f.0 high fs h.1)

  pub woven_shown : (at : ℕ) (xs : List X) (fs : List (ℕ × X)) → map view (woven at xs fs) ≡ woven at (map view xs) (map (λ (f : ℕ × X). (f.0, view f.1)) fs)
  woven_shown at xs [] = refl
  woven_shown at xs (f ∷ fs) =
      let front = sym (take-map view (f.0 - at) xs) in
      let rest = woven_shown f.0 (drop (f.0 - at) xs) fs ∙ ap (λ z. woven f.0 z (map (λ (g : ℕ × X). (g.0, view g.1)) fs)) (sym (drop-map view (f.0 - at) xs)) in
      map-append view (take (f.0 - at) xs) (f.1 ∷ woven f.0 (drop (f.0 - at) xs) fs) ∙ (λ i. front i ++ view f.1 ∷ rest i)
