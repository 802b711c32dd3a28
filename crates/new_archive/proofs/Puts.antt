-- A kid that is put into a row at its place, or is to be.
use Rattle.std.proofs.Common.{◌≡◌, ℕ, zero, suc, ◌+◌, ◌-◌, ◌<◌, ◌≤◌, List, [], ◌∷◌, ◌++◌, map, length, take, drop, get_or, Ok, Err, refl, ap, sym, subst, ◌∙◌, arith, append_assoc, length-append}
use Rattle.std.proofs.lemmas.List.{drop-drop, drop_at, get_or-drop, length-drop, take-append-drop}
use Rattle.keyed_tree.specs.Data.{PlainKeyed, label_of}
use Rattle.keyed_tree.specs.Lists.{Ascends}
use Rattle.keyed_tree.specs.Order.{label_cmp}
use Rattle.new_archive.specs.Full.{PlainFull, fulls_from, full_label}
use Rattle.new_archive.specs.Added.{new_full, added}
use Rattle.new_archive.specs.Ready.{IsReady, AreReady}
use Rattle.new_archive.specs.Place.{IsPlaceOf, added_list, IsPut}
use Rattle.new_archive.specs.Woven.{ArePlaced, woven}
use Rattle.new_archive.proofs.Rows.{row_met, row_new}
use Rattle.new_archive.proofs.Wovens.{placed_behind, placed_up, woven_front, woven_last}

-- ---- fronts and what is behind them

take_none : {X : Type 0} (j : ℕ) → take {A = X} j [] ≡ []
take_none zero = refl
take_none (suc j) = refl

take_both : {X : Type 0} (i j : ℕ) (xs : List X) → take (i + j) xs ≡ take i xs ++ take j (drop i xs)
take_both zero j xs = (let e : 0 + j ≡ j = omega arith in rw e refl)
take_both (suc i) j [] = (let e : suc i + j ≡ suc (i + j) = omega arith in rw e (sym (take_none j)))
take_both (suc i) j (x ∷ xs) = (let e : suc i + j ≡ suc (i + j) = omega arith in rw e (ap (λ z. x ∷ z) (take_both i j xs)))

take_front : {X : Type 0} (n : ℕ) (xs ys : List X) → length xs ≡ n → take n (xs ++ ys) ≡ xs
take_front zero [] ys e = refl
take_front (suc n) [] ys e = absurd (omega arith)
take_front zero (x ∷ xs) ys e = absurd (omega arith)
take_front (suc n) (x ∷ xs) ys e = ap (λ z. x ∷ z) (take_front n xs ys (omega arith))

length_front : {X : Type 0} (n : ℕ) (xs : List X) → n ≤ length xs → length (take n xs) ≡ n
length_front zero xs h = refl
length_front (suc n) [] h = absurd (omega arith)
length_front (suc n) (x ∷ xs) h = (let rest = length_front n xs (omega arith) in omega arith)

-- ---- what is ready

pub ready_drop : (n i : ℕ) (ks : List PlainFull) → AreReady n (fulls_from ks) → AreReady n (fulls_from (drop i ks))
ready_drop n zero ks h = h
ready_drop n (suc i) [] h = h
ready_drop n (suc i) (k ∷ ks) h = ready_drop n i ks h.1

pub ready_at : (n i : ℕ) (ks : List PlainFull) (d : PlainFull) → AreReady n (fulls_from ks) → i < length ks → IsReady n (get_or ks i d)
ready_at n i [] d h low = absurd (omega arith)
ready_at n zero (k ∷ ks) d h low = h.0
ready_at n (suc i) (k ∷ ks) d h low = ready_at n i ks d h.1 (omega arith)

pub ascends_drop : (i : ℕ) (ks : List PlainFull) → Ascends label_cmp (map full_label ks) → Ascends label_cmp (map full_label (drop i ks))
ascends_drop zero ks h = h
ascends_drop (suc i) [] h = h
ascends_drop (suc i) (k ∷ ks) h = ascends_drop i ks h.1

-- ---- nodes up to a place, with new ones among them

module _ (ks : List PlainFull) (fs : List (ℕ × PlainFull)) (from : ℕ) (begins : from ≤ length ks) (placed : ArePlaced 0 from fs) where
  -- what follows them
  front_woven : (xs : List PlainFull) → woven 0 (take from ks ++ xs) fs ≡ woven 0 (take from ks) fs ++ xs
  front_woven xs =
      let many = length_front from ks begins in
      let end : from ≡ 0 + length (take from ks) = omega (arith, many) in
      woven_front 0 (take from ks) xs fs (subst (λ z. ArePlaced 0 z fs) end placed)

  -- one more at its place, and the rest
  at_end : (ps : List PlainFull) (y : PlainFull) (rs : List PlainFull) → ((woven 0 (take from ks) fs ++ ps) ++ y ∷ []) ++ rs ≡ woven 0 (take from ks) fs ++ (ps ++ y ∷ rs)
  at_end ps y rs = append_assoc (woven 0 (take from ks) fs ++ ps) (y ∷ []) rs ∙ append_assoc (woven 0 (take from ks) fs) ps (y ∷ rs)

  -- the first node that is left
  pub all_woven : woven 0 (take from ks) fs ++ drop from ks ≡ woven 0 ks fs
  all_woven = sym (front_woven (drop from ks)) ∙ ap (λ z. woven 0 z fs) (take-append-drop from ks)

module _ (n : ℕ) (c : PlainKeyed) (ks : List PlainFull) (fs : List (ℕ × PlainFull)) (from p : ℕ) (begins : from ≤ length ks) (placed : ArePlaced 0 from fs) (ready : AreReady n (fulls_from (drop from ks))) (up : Ascends label_cmp (map full_label (drop from ks))) where
  rest_met : drop (p + 1) (drop from ks) ≡ drop (from + p + 1) ks
  rest_met = drop-drop (p + 1) from ks ∙ (let e : from + (p + 1) ≡ from + p + 1 = omega arith in ap (λ z. drop z ks) e)

  rest_new : drop p (drop from ks) ≡ drop (from + p) ks
  rest_new = drop-drop p from ks

  count : length (drop from ks) ≡ length ks - from
  count = length-drop from ks

  module _ (js : List PlainFull) (y : PlainFull) (in_range : from + p < length ks) (is : js ≡ take (from + p) ks ++ y ∷ drop (from + p + 1) ks) where
    abbrev front : List PlainFull
    front = take (from + p) ks ++ y ∷ []

    parts : js ≡ front ++ drop (from + p + 1) ks
    parts = is ∙ sym (append_assoc (take (from + p) ks) (y ∷ []) (drop (from + p + 1) ks))

    front_length : length front ≡ from + p + 1
    front_length = (let all : from + p ≤ length ks = omega (arith, in_range) in length-append (take (from + p) ks) (y ∷ []) ∙ ap (λ z. z + 1) (length_front (from + p) ks all))

    done : take (from + p + 1) js ≡ (take from ks ++ take p (drop from ks)) ++ y ∷ []
    done = ap (take (from + p + 1)) parts ∙ take_front (from + p + 1) front (drop (from + p + 1) ks) front_length ∙ ap (λ z. z ++ y ∷ []) (take_both from p ks)

    left : drop (from + p + 1) js ≡ drop (from + p + 1) ks
    left = ap (drop (from + p + 1)) parts ∙ drop_at front (drop (from + p + 1) ks) (from + p + 1) front_length

    within : from + p + 1 ≤ length js
    within = (let whole : length js ≡ length front + length (drop (from + p + 1) ks) = ap length parts ∙ length-append front (drop (from + p + 1) ks) in let least = front_length in omega (arith, whole, least))

    met_whole : (cs : List PlainKeyed) → added_list n (drop from ks) (c ∷ cs) ≡ take p (drop from ks) ++ y ∷ added_list n (drop (from + p + 1) ks) cs
        → woven 0 (take (from + p + 1) js) fs ++ added_list n (drop (from + p + 1) js) cs ≡ woven 0 (take from ks) fs ++ added_list n (drop from ks) (c ∷ cs)
    met_whole cs step =
        let ps = take p (drop from ks) in
        let rs = added_list n (drop (from + p + 1) ks) cs in
        (λ i. woven 0 (done i) fs ++ added_list n (left i) cs)
        ∙ ap (λ z. woven 0 z fs ++ rs) (append_assoc (take from ks) ps (y ∷ []))
        ∙ ap (λ z. z ++ rs) (front_woven ks fs from begins placed (ps ++ y ∷ []) ∙ sym (append_assoc (woven 0 (take from ks) fs) ps (y ∷ [])))
        ∙ at_end ks fs from begins placed ps y rs
        ∙ ap (λ z. woven 0 (take from ks) fs ++ z) (sym step)

  pub put_met : (js : List PlainFull) (d : PlainFull) → IsPlaceOf (label_of c) (drop from ks) (Ok p) → js ≡ take (from + p) ks ++ added n (get_or ks (from + p) d) c ∷ drop (from + p + 1) ks → IsPut n ks fs from c (from + p + 1) js fs
  put_met js d place is =
      let many = count in
      let low = place.0 in
      let in_range : from + p < length ks = omega (arith, many, low, begins) in
      let y = added n (get_or ks (from + p) d) c in
      let here : get_or (drop from ks) p d ≡ get_or ks (from + p) d = get_or-drop from ks p d in
      let behind = left js y in_range is in
      record {
        within = within js y in_range is;
        placed = placed_up 0 from (from + p + 1) fs placed (omega arith);
        whole = λ cs h. met_whole js y in_range is cs (row_met n c (drop from ks) p d cs up low (place.1 d) h ∙ (λ i. take p (drop from ks) ++ added n (here i) c ∷ added_list n (rest_met i) cs));
        ready = subst (λ z. AreReady n (fulls_from z)) (rest_met ∙ sym behind) (ready_drop n (p + 1) (drop from ks) ready);
        ascending = subst (λ z. Ascends label_cmp (map full_label z)) (rest_met ∙ sym behind) (ascends_drop (p + 1) (drop from ks) up);
      }

  pub put_new : (gs : List (ℕ × PlainFull)) → IsPlaceOf (label_of c) (drop from ks) (Err p) → gs ≡ fs ++ (from + p, new_full n c) ∷ [] → IsPut n ks fs from c (from + p) ks gs
  put_new gs place is =
      let many = count in
      let low = place.0 in
      let in_range : from + p ≤ length ks = omega (arith, many, low, begins) in
      let y = new_full n c in
      let ps = take p (drop from ks) in
      let far : ArePlaced 0 (from + p) fs = placed_up 0 from (from + p) fs placed (omega arith) in
      let size = length_front (from + p) ks in_range in
      let end : 0 + length (take (from + p) ks) ≡ from + p = omega (arith, size) in
      record {
        within = in_range;
        placed = subst (λ z. ArePlaced 0 (from + p) z) (sym is) (placed_behind 0 (from + p) fs y far);
        whole = λ cs h. (
            let rs = added_list n (drop (from + p) ks) cs in
            ap (λ z. woven 0 (take (from + p) ks) z ++ rs) is
            ∙ ap (λ z. z ++ rs) (woven_last 0 (take (from + p) ks) fs (from + p) y far end)
            ∙ ap (λ z. (woven 0 z fs ++ y ∷ []) ++ rs) (take_both from p ks)
            ∙ ap (λ z. (z ++ y ∷ []) ++ rs) (front_woven ks fs from begins placed ps)
            ∙ at_end ks fs from begins placed ps y rs
            ∙ ap (λ z. woven 0 (take from ks) fs ++ z) (sym (row_new n c (drop from ks) p cs low (λ j d g. place.1 j d g) (λ j d f g. place.2 j d f g) h ∙ (λ i. ps ++ y ∷ added_list n (rest_new i) cs))));
        ready = subst (λ z. AreReady n (fulls_from z)) rest_new (ready_drop n p (drop from ks) ready);
        ascending = subst (λ z. Ascends label_cmp (map full_label z)) rest_new (ascends_drop p (drop from ks) up);
      }

  pub met_within : IsPlaceOf (label_of c) (drop from ks) (Ok p) → from + p < length ks
  met_within place = (let many = count in let low = place.0 in omega arith)
