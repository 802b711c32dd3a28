-- On which side of the middle of a sorted row a label is.
use Rattle.std.proofs.Common.{◌≡◌, true, false, cond, List, [], ◌∷◌, ◌++◌, map, Some, None, refl, sym, ap, ◌∙◌}
use Rattle.std.specs.List.{AllByRecursion}
use Rattle.std.specs.Ordering.{is_eq, ordering_reverse}
use Rattle.std.specs.declared.cmp.Ordering.TheVariants.{Less, Equal, Greater}
use Rattle.keyed_tree.specs.Data.{PlainLabel}
use Rattle.keyed_tree.specs.Laws.{label_cmp_total}
use Rattle.keyed_tree.specs.Lists.{Ascends}
use Rattle.keyed_tree.specs.Order.{label_cmp}
use Rattle.archive_tree.specs.Data.{PlainNode, node_label}
use Rattle.archive_tree.specs.Seek.{node_with}

-- none of these nodes has the label
abbrev NoneIs : PlainLabel → List PlainNode → Type 0
NoneIs w ks = AllByRecursion (λ k. is_eq (label_cmp (node_label k) w) ≡ false) ks

none-with : (w : PlainLabel) (xs : List PlainNode) → NoneIs w xs → node_with w xs ≡ None
none-with w [] h = refl
none-with w (x ∷ xs) h = (let e = h.0 in rw e (none-with w xs h.1))

skip : (w : PlainLabel) (xs ys : List PlainNode) → NoneIs w xs → node_with w (xs ++ ys) ≡ node_with w ys
skip w [] ys h = refl
skip w (x ∷ xs) ys h = (let e = h.0 in rw e (skip w xs ys h.1))

stop : (w : PlainLabel) (xs ys : List PlainNode) → NoneIs w ys → node_with w (xs ++ ys) ≡ node_with w xs
stop w [] ys h = none-with w ys h
stop w (x ∷ xs) ys h = elim (is_eq (label_cmp (node_label x) w)) as (λ b. cond b (Some x) (node_with w (xs ++ ys)) ≡ cond b (Some x) (node_with w xs)) [ true ↦ refl | false ↦ stop w xs ys h ]

-- ---- the nodes before the middle, and behind it

-- whatever holds of what is below k holds of each node before it
before-all : (P : PlainLabel → Type 0) (k : PlainNode) (left right : List PlainNode) → ((l : PlainLabel) → label_cmp l (node_label k) ≡ Less → P l) → Ascends label_cmp (map node_label (left ++ k ∷ right)) → AllByRecursion (λ j. P (node_label j)) left
before-all P k [] right f h = tt
before-all P k (j ∷ left) right f h = (f (node_label j) (below left h.0), before-all P k left right f h.1)
  where
    below : (xs : List PlainNode) → AllByRecursion (λ y. label_cmp (node_label j) y ≡ Less) (map node_label (xs ++ k ∷ right)) → label_cmp (node_label j) (node_label k) ≡ Less
    below [] g = g.0
    below (x ∷ xs) g = below xs g.1

behind-all : (P : PlainLabel → Type 0) (k : PlainNode) (left right : List PlainNode) → ((l : PlainLabel) → label_cmp (node_label k) l ≡ Less → P l) → Ascends label_cmp (map node_label (left ++ k ∷ right)) → AllByRecursion (λ j. P (node_label j)) right
behind-all P k [] right f h = each right h.0
  where
    each : (xs : List PlainNode) → AllByRecursion (λ y. label_cmp (node_label k) y ≡ Less) (map node_label xs) → AllByRecursion (λ j. P (node_label j)) xs
    each [] g = tt
    each (x ∷ xs) g = (f (node_label x) g.0, each xs g.1)
behind-all P k (j ∷ left) right f h = behind-all P k left right f h.1

-- the middle is below what is wanted
pub with-less : (w : PlainLabel) (k : PlainNode) (left right : List PlainNode) → Ascends label_cmp (map node_label (left ++ k ∷ right)) → label_cmp (node_label k) w ≡ Less → node_with w (left ++ k ∷ right) ≡ node_with w right
with-less w k left right h e =
    let lower = before-all (λ (l : PlainLabel). is_eq (label_cmp l w) ≡ false) k left right (λ l g. ap is_eq (label_cmp_total.trans l (node_label k) w g e)) h in
    skip w left (k ∷ right) lower ∙ skip w (k ∷ []) right (ap is_eq e, tt)

-- above it
pub with-greater : (w : PlainLabel) (k : PlainNode) (left right : List PlainNode) → Ascends label_cmp (map node_label (left ++ k ∷ right)) → label_cmp (node_label k) w ≡ Greater → node_with w (left ++ k ∷ right) ≡ node_with w left
with-greater w k left right h e =
    let above : label_cmp w (node_label k) ≡ Less = label_cmp_total.antisymm w (node_label k) ∙ ap ordering_reverse e in
    let higher = behind-all (λ (l : PlainLabel). is_eq (label_cmp l w) ≡ false) k left right
    (λ l g. ap is_eq (label_cmp_total.antisymm l w ∙ ap ordering_reverse (label_cmp_total.trans w (node_label k) l above g))) h in
    stop w left (k ∷ right) (ap is_eq e, higher)

-- it is what is wanted
pub with-equal : (w : PlainLabel) (k : PlainNode) (left right : List PlainNode) → Ascends label_cmp (map node_label (left ++ k ∷ right)) → label_cmp (node_label k) w ≡ Equal → node_with w (left ++ k ∷ right) ≡ Some k
with-equal w k left right h e =
    let lower = before-all (λ (l : PlainLabel). is_eq (label_cmp l w) ≡ false) k left right
    (λ l g. ap is_eq (label_cmp_total.antisymm l w ∙ ap ordering_reverse (sym (label_cmp_total.congr (node_label k) w l e) ∙ label_cmp_total.antisymm (node_label k) l ∙ ap ordering_reverse g))) h in
    let here : is_eq (label_cmp (node_label k) w) ≡ true = ap is_eq e in
    skip w left (k ∷ right) lower ∙ rw here refl

pub ascends-front : (xs ys : List PlainNode) → Ascends label_cmp (map node_label (xs ++ ys)) → Ascends label_cmp (map node_label xs)
ascends-front [] ys h = tt
ascends-front (x ∷ xs) ys h = (front xs h.0, ascends-front xs ys h.1)
  where
    front : (zs : List PlainNode) → AllByRecursion (λ y. label_cmp (node_label x) y ≡ Less) (map node_label (zs ++ ys)) → AllByRecursion (λ y. label_cmp (node_label x) y ≡ Less) (map node_label zs)
    front [] g = tt
    front (z ∷ zs) g = (g.0, front zs g.1)

pub ascends-back : (xs ys : List PlainNode) → Ascends label_cmp (map node_label (xs ++ ys)) → Ascends label_cmp (map node_label ys)
ascends-back [] ys h = h
ascends-back (x ∷ xs) ys h = ascends-back xs ys h.1
