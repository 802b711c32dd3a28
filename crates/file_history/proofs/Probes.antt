-- The children that a search by halving looks at, where the middle is known.
use Rattle.std.proofs.Common.{◌≡◌, ℕ, zero, suc, ◌+◌, ◌/◌, ◌≤◌, List, [], ◌∷◌, ◌++◌, length, take, drop, Option, Some, None, refl, sym, ap, ◌∙◌, append_assoc, length-drop, arith}
use Rattle.std.specs.List.{slice_get}
use Rattle.std.specs.declared.cmp.Ordering.{Ordering}
use Rattle.std.specs.declared.cmp.Ordering.TheVariants.{Less, Equal, Greater}
use Rattle.std.proofs.lemmas.List.{length-append, length-take, take_at, drop_at}
use Rattle.keyed_tree.specs.Data.{PlainLabel}
use Rattle.keyed_tree.specs.Order.{label_cmp}
use Rattle.archive_tree.specs.Data.{PlainNode, node_label}
use Rattle.file_history.specs.Halving.{beside, from_middle, probes_within, probes}
use Rattle.file_history.proofs.Halves.{get-at}

-- ---- the number of children is enough

same-beside : (f g : List PlainNode → ℕ) (at : ℕ) (ks : List PlainNode) (o : Ordering) → f (drop (at + 1) ks) ≡ g (drop (at + 1) ks) → f (take at ks) ≡ g (take at ks) → beside f at ks o ≡ beside g at ks o
same-beside f g at ks Less e h = e
same-beside f g at ks Equal e h = refl
same-beside f g at ks Greater e h = h

same-middle : (f g : List PlainNode → ℕ) (w : PlainLabel) (ks : List PlainNode) (o : Option PlainNode) → f (drop (length ks / 2 + 1) ks) ≡ g (drop (length ks / 2 + 1) ks) → f (take (length ks / 2) ks) ≡ g (take (length ks / 2) ks)
    → from_middle f w ks o ≡ from_middle g w ks o
same-middle f g w ks None e h = refl
same-middle f g w ks (Some k) e h = ap (λ (n : ℕ). 1 + n) (same-beside f g (length ks / 2) ks (label_cmp (node_label k) w) e h)

none-within : (d : ℕ) (w : PlainLabel) → probes_within d w [] ≡ 0
none-within zero w = refl
none-within (suc d) w = refl

same-within : (d e : ℕ) (w : PlainLabel) (ks : List PlainNode) → length ks ≤ d → length ks ≤ e → probes_within d w ks ≡ probes_within e w ks
same-within d e w [] h g = none-within d w ∙ sym (none-within e w)
same-within zero e w (k ∷ ks) h g = absurd (omega (arith, h))
same-within (suc d) zero w (k ∷ ks) h g = absurd (omega (arith, g))
same-within (suc d) (suc e) w (k ∷ ks) h g =
    let all = k ∷ ks in
    let at = length all / 2 in
    let behind = length-drop (at + 1) all in
    let before = length-take at all in
    same-middle (probes_within d w) (probes_within e w) w all (slice_get all at)
    (same-within d e w (drop (at + 1) all) (omega (arith, h, behind)) (omega (arith, g, behind)))
    (same-within d e w (take at all) (omega (arith, h, before)) (omega (arith, g, before)))

-- ---- by the order of the middle

module _ (w : PlainLabel) (mid left right : List PlainNode) (k : PlainNode) (is : mid ≡ left ++ k ∷ right) (place : length left ≡ length mid / 2) where
  abbrev others : ℕ
  others = length left + length right

  size : length mid ≡ suc others
  size = (let all = ap length is ∙ length-append left (k ∷ right) in omega (arith, all))

  here : slice_get mid (length mid / 2) ≡ Some k
  here = ap (λ (xs : List PlainNode). slice_get xs (length mid / 2)) is ∙ ap (slice_get (left ++ k ∷ right)) (sym place) ∙ get-at left right k

  behind : drop (length mid / 2 + 1) mid ≡ right
  behind =
      let one : length (left ++ k ∷ []) ≡ length mid / 2 + 1 = omega (arith, length-append left (k ∷ []), place) in
      ap (drop (length mid / 2 + 1)) (is ∙ sym (append_assoc left (k ∷ []) right)) ∙ drop_at (left ++ k ∷ []) right (length mid / 2 + 1) one

  before : take (length mid / 2) mid ≡ left
  before = ap (take (length mid / 2)) is ∙ take_at left (k ∷ right) (length mid / 2) place

  opened : (o : Ordering) → label_cmp (node_label k) w ≡ o → probes w mid ≡ 1 + beside (probes_within others w) (length mid / 2) mid o
  opened o e =
      ap (λ (n : ℕ). probes_within n w mid) size ∙ ap (from_middle (probes_within others w) w mid) here
      ∙ ap (λ (p : Ordering). 1 + beside (probes_within others w) (length mid / 2) mid p) e

  pub halved-less : label_cmp (node_label k) w ≡ Less → probes w mid ≡ 1 + probes w right
  halved-less e = opened Less e ∙ ap (λ (xs : List PlainNode). 1 + probes_within others w xs) behind ∙ ap (λ (n : ℕ). 1 + n) (same-within others (length right) w right (omega arith) (omega arith))

  pub halved-greater : label_cmp (node_label k) w ≡ Greater → probes w mid ≡ 1 + probes w left
  halved-greater e = opened Greater e ∙ ap (λ (xs : List PlainNode). 1 + probes_within others w xs) before ∙ ap (λ (n : ℕ). 1 + n) (same-within others (length left) w left (omega arith) (omega arith))

  pub halved-equal : label_cmp (node_label k) w ≡ Equal → probes w mid ≡ 1
  halved-equal e = opened Equal e

-- of no children none is looked at
pub probes-none : (w : PlainLabel) (mid : List PlainNode) → length mid ≡ 0 → probes w mid ≡ 0
probes-none w mid e = ap (λ (n : ℕ). probes_within n w mid) e
