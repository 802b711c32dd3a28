-- The labels of two rows in one.
use Rattle.std.proofs.Common.{◌≡◌, ℕ, true, false, cond, List, [], ◌∷◌, ◌++◌, map, Option, Some, None, refl, ap, sym, subst, ◌∙◌, ◌⊎◌, inl, inr}
use Rattle.std.proofs.lemmas.List.{append-nil}
use Rattle.std.specs.List.{AllByRecursion}
use Rattle.std.specs.Ordering.{is_eq, is_lt, is_le}
use Rattle.std.specs.declared.cmp.Ordering.TheVariants.{Less, Equal, Greater}
use Rattle.keyed_tree.specs.Data.{PlainLabel}
use Rattle.keyed_tree.specs.Laws.{label_cmp_total, label_cmp_exact, label_cmp-is_eq}
use Rattle.keyed_tree.specs.Lists.{Ascends, Has}
use Rattle.keyed_tree.specs.Order.{label_cmp}
use Rattle.jsonml_tree.proofs.Lists.{all_has, not_itself}
use Rattle.keyed_tree.proofs.Kids.{is_lt-Less}
use Rattle.archive_tree.specs.Data.{PlainNode, inner_node, leaf_node, PlainNodes, no_nodes, node, node_label}
use Rattle.archive_tree.specs.Stands.{labels}
use Rattle.nested_merge.proofs.Picked.{all_append}
use Rattle.nested_merge.proofs.Weave.{has_left, has_right}
use Rattle.archive_join.specs.Joined.{below, above, alone_node, alone_onto, joined_node, joined_row, alone_or_joined}
use Rattle.archive_tree.specs.Seek.{node_with}

abbrev pub names : List PlainNode → List PlainLabel
names js = map node_label js

le_less : (x m l : PlainLabel) → is_le (label_cmp x m) ≡ true → label_cmp m l ≡ Less → label_cmp x l ≡ Less
le_less x m l h g =
    elim (label_cmp x m) as (λ o. label_cmp x m ≡ o → is_le o ≡ true → label_cmp x l ≡ Less) [
      | Less ↦ λ e t. label_cmp_total.trans x m l e g
      | Equal ↦ λ e t. label_cmp_total.congr x m l e ∙ g
      | Greater ↦ λ e t. cc
    ] refl h

not_le : (x m : PlainLabel) → is_le (label_cmp x m) ≡ false → label_cmp m x ≡ Less
not_le x m h =
    let back = label_cmp_total.antisymm m x in
    elim (label_cmp x m) as (λ o. label_cmp x m ≡ o → is_le o ≡ false → label_cmp m x ≡ Less) [
      | Less ↦ λ e t. cc
      | Equal ↦ λ e t. cc
      | Greater ↦ λ e t. rw e at back
    ] refl h

lookup_less : (l : PlainLabel) (j : PlainNode) (js : List PlainNode) → label_cmp (node_label j) l ≡ Less → node_with l (j ∷ js) ≡ node_with l js
lookup_less l j js e = rw e

pub above_lookup : (m l : PlainLabel) (js : List PlainNode) → label_cmp m l ≡ Less → node_with l (above m js) ≡ node_with l js
above_lookup m l [] h = refl
above_lookup m l (j ∷ js) h =
    elim (is_le (label_cmp (node_label j) m)) as (λ b. is_le (label_cmp (node_label j) m) ≡ b → node_with l (cond b (above m js) (j ∷ js)) ≡ node_with l (j ∷ js)) [
      | true ↦ λ e. above_lookup m l js h ∙ sym (lookup_less l j js (le_less (node_label j) m l e h))
      | false ↦ λ e. refl
    ] refl

-- ---- the node with a label

some_is : (a b : PlainNode) → Some a ≡ Some b → a ≡ b
some_is a b e = cc

none_is : (b : PlainNode) → ¬ (None ≡ Some b)
none_is b e = cc

pub has_found : (l : PlainLabel) (j : PlainNode) (js : List PlainNode) → node_with l js ≡ Some j → Has j js × (node_label j ≡ l)
has_found l j [] e = absurd (none_is j e)
has_found l j (k ∷ ks) e =
    elim (is_eq (label_cmp (node_label k) l)) as (λ b. is_eq (label_cmp (node_label k) l) ≡ b → cond b (Some k) (node_with l ks) ≡ Some j → Has j (k ∷ ks) × (node_label j ≡ l)) [
      | true ↦ λ d f. (inl (some_is k j f), ap node_label (sym (some_is k j f)) ∙ (label_cmp-is_eq (node_label k) l).0 d)
      | false ↦ λ d f. (let rest = has_found l j ks f in (inr rest.0, rest.1))
    ] refl e

pub not_found : (l : PlainLabel) (js : List PlainNode) → node_with l js ≡ None → ¬ (Has l (names js))
not_found l [] e m = m
not_found l (k ∷ ks) e m =
    elim (is_eq (label_cmp (node_label k) l)) as (λ b. is_eq (label_cmp (node_label k) l) ≡ b → cond b (Some k) (node_with l ks) ≡ None → ⊥) [
      | true ↦ λ d f. none_is k (sym f)
      | false ↦ λ d f. elim m [ inl g ↦ (let t = (label_cmp-is_eq (node_label k) l).1 g in cc) | inr n ↦ not_found l ks f n ]
    ] refl e

-- ---- facts of each label

pub all_above : (P : PlainLabel → Type 0) (m : PlainLabel) (js : List PlainNode) → AllByRecursion P (names js) → AllByRecursion P (names (above m js))
all_above P m [] h = tt
all_above P m (j ∷ js) h = elim (is_le (label_cmp (node_label j) m)) as (λ b. AllByRecursion P (names (cond b (above m js) (j ∷ js)))) [ true ↦ all_above P m js h.1 | false ↦ h ]

pub all_below : (P : PlainLabel → Type 0) (m : PlainLabel) (js : List PlainNode) → AllByRecursion P (names js) → AllByRecursion P (names (below m js))
all_below P m [] h = tt
all_below P m (j ∷ js) h = (let rest = all_below P m js h.1 in elim (is_lt (label_cmp (node_label j) m)) as (λ b. AllByRecursion P (names (cond b (j ∷ below m js) []))) [ true ↦ (h.0, rest) | false ↦ tt ])

pub above_ascends : (m : PlainLabel) (js : List PlainNode) → Ascends label_cmp (names js) → Ascends label_cmp (names (above m js))
above_ascends m [] h = tt
above_ascends m (j ∷ js) h = elim (is_le (label_cmp (node_label j) m)) as (λ b. Ascends label_cmp (names (cond b (above m js) (j ∷ js)))) [ true ↦ above_ascends m js h.1 | false ↦ h ]

pub below_ascends : (m : PlainLabel) (js : List PlainNode) → Ascends label_cmp (names js) → Ascends label_cmp (names (below m js))
below_ascends m [] h = tt
below_ascends m (j ∷ js) h =
    let rest = below_ascends m js h.1 in
    let low = all_below (λ x. label_cmp (node_label j) x ≡ Less) m js h.0 in
    elim (is_lt (label_cmp (node_label j) m)) as (λ b. Ascends label_cmp (names (cond b (j ∷ below m js) []))) [ true ↦ (low, rest) | false ↦ tt ]

pub lower_all : (m x : PlainLabel) (xs : List PlainLabel) → label_cmp m x ≡ Less → AllByRecursion (λ y. label_cmp x y ≡ Less) xs → AllByRecursion (λ y. label_cmp m y ≡ Less) xs
lower_all m x [] e h = tt
lower_all m x (y ∷ ys) e h = (label_cmp_total.trans m x y e h.0, lower_all m x ys e h.1)

pub above_higher : (m : PlainLabel) (js : List PlainNode) → Ascends label_cmp (names js) → AllByRecursion (λ x. label_cmp m x ≡ Less) (names (above m js))
above_higher m [] h = tt
above_higher m (j ∷ js) h =
    elim (is_le (label_cmp (node_label j) m)) as (λ b. is_le (label_cmp (node_label j) m) ≡ b → AllByRecursion (λ x. label_cmp m x ≡ Less) (names (cond b (above m js) (j ∷ js)))) [
      | true ↦ λ e. above_higher m js h.1
      | false ↦ λ e. (not_le (node_label j) m e, lower_all m (node_label j) (names js) (not_le (node_label j) m e) h.0)
    ] refl

pub below_lower : (m : PlainLabel) (js : List PlainNode) → AllByRecursion (λ x. label_cmp x m ≡ Less) (names (below m js))
below_lower m [] = tt
below_lower m (j ∷ js) =
    let rest = below_lower m js in
    elim (is_lt (label_cmp (node_label j) m)) as (λ b. is_lt (label_cmp (node_label j) m) ≡ b → AllByRecursion (λ x. label_cmp x m ≡ Less) (names (cond b (j ∷ below m js) []))) [
      | true ↦ λ e. (is_lt-Less _ e, rest)
      | false ↦ λ e. tt
    ] refl

pub has_above : (m : PlainLabel) (j : PlainNode) (js : List PlainNode) → Has j (above m js) → Has j js
has_above m j [] h = h
has_above m j (d ∷ js) h = elim (is_le (label_cmp (node_label d) m)) as (λ b. Has j (cond b (above m js) (d ∷ js)) → Has j (d ∷ js)) [ true ↦ λ g. inr (has_above m j js g) | false ↦ λ g. g ] h

pub has_below : (m : PlainLabel) (j : PlainNode) (js : List PlainNode) → Has j (below m js) → Has j js
has_below m j [] h = h
has_below m j (d ∷ js) h = elim (is_lt (label_cmp (node_label d) m)) as (λ b. Has j (cond b (d ∷ below m js) []) → Has j (d ∷ js)) [
  | true ↦ λ g. elim g [ inl e ↦ inl e | inr k ↦ inr (has_below m j js k) ]
  | false ↦ λ g. absurd g
] h

pub high_above : (m l : PlainLabel) (js : List PlainNode) → label_cmp m l ≡ Less → Has l (names js) → Has l (names (above m js))
high_above m l [] e h = h
high_above m l (j ∷ js) e h =
    elim (is_le (label_cmp (node_label j) m)) as (λ b. is_le (label_cmp (node_label j) m) ≡ b → Has l (names (cond b (above m js) (j ∷ js)))) [
      | true ↦ λ t. elim h [
        | inl d ↦ absurd (not_itself label_cmp_total l (subst (λ x. label_cmp x l ≡ Less) d (le_less (node_label j) m l t e)))
        | inr k ↦ high_above m l js e k
      ]
      | false ↦ λ t. h
    ] refl

-- a label of the row is below, at or above m
pub parts : (m l : PlainLabel) (js : List PlainNode) → Has l (names js) → Ascends label_cmp (names js) → Has l (names (below m js)) ⊎ ((m ≡ l) ⊎ Has l (names (above m js)))
parts m l [] h a = absurd h
parts m l (j ∷ js) h a =
    elim (label_cmp (node_label j) m) as (λ o. label_cmp (node_label j) m ≡ o → Has l (names (cond (is_lt o) (j ∷ below m js) [])) ⊎ ((m ≡ l) ⊎ Has l (names (cond (is_le o) (above m js) (j ∷ js))))) [
      | Less ↦ λ e. elim h [
        | inl d ↦ inl (inl d)
        | inr k ↦ elim (parts m l js k a.1) [ inl x ↦ inl (inr x) | inr x ↦ inr x ]
      ]
      | Equal ↦ λ e. elim h [
        | inl d ↦ inr (inl (sym (label_cmp_exact _ _ e) ∙ d))
        | inr k ↦ inr (inr (later (label_cmp_exact _ _ e) k))
      ]
      | Greater ↦ λ e. inr (inr h)
    ] refl
  where
    later : node_label j ≡ m → Has l (names js) → Has l (names (above m js))
    later e k = high_above m l js (subst (λ x. label_cmp x l ≡ Less) e (all_has (λ x. label_cmp (node_label j) x ≡ Less) (names js) l a.0 k)) k

ascends_around : (m : PlainLabel) (xs ys : List PlainLabel) → Ascends label_cmp xs → AllByRecursion (λ x. label_cmp x m ≡ Less) xs → AllByRecursion (λ y. label_cmp m y ≡ Less) ys → Ascends label_cmp ys → Ascends label_cmp (xs ++ m ∷ ys)
ascends_around m [] ys a h g b = (g, b)
ascends_around m (x ∷ xs) ys a h g b =
    (all_append (λ y. label_cmp x y ≡ Less) xs (m ∷ ys) a.0 (h.0, lower_all x m ys h.0 g), ascends_around m xs ys a.1 h.1 g b)

-- ---- the labels of a row

pub alone_label : (p q : List (ℕ × ℕ)) (k : PlainNode) → node_label (alone_node p q k) ≡ node_label k
alone_label p q (inner_node l s ks) = refl
alone_label p q (leaf_node l s xs) = refl

labels_onto : (p q : List (ℕ × ℕ)) (js : List PlainNode) (r : PlainNodes) → labels (alone_onto p q js r) ≡ names js ++ labels r
labels_onto p q [] r = refl
labels_onto p q (j ∷ js) r = λ i. alone_label p q j i ∷ labels_onto p q js r i

pub alone_or_joined_label : (p q : List (ℕ × ℕ)) (k : PlainNode) (o : Option PlainNode) → node_label (alone_or_joined (alone_node p q k) (λ j. joined_node p q k j) o) ≡ node_label k
alone_or_joined_label p q (inner_node l s ks) None = refl
alone_or_joined_label p q (leaf_node l s xs) None = refl
alone_or_joined_label p q (inner_node l s ks) (Some (inner_node m t js)) = refl
alone_or_joined_label p q (inner_node l s ks) (Some (leaf_node m t ys)) = refl
alone_or_joined_label p q (leaf_node l s xs) (Some (inner_node m t js)) = refl
alone_or_joined_label p q (leaf_node l s xs) (Some (leaf_node m t ys)) = refl

module _ (p q : List (ℕ × ℕ)) where
  pub labels_step : (k : PlainNode) (ks : PlainNodes) (js : List PlainNode)
      → labels (joined_row p q (node k ks) js) ≡ names (below (node_label k) js) ++ node_label k ∷ labels (joined_row p q ks (above (node_label k) js))
  labels_step k ks js =
      let low = below (node_label k) js in
      let rest = joined_row p q ks (above (node_label k) js) in
      let here = alone_or_joined (alone_node p q k) (λ j. joined_node p q k j) (node_with (node_label k) js) in
      labels_onto q p low (node here rest) ∙ ap (λ x. names low ++ x ∷ labels rest) (alone_or_joined_label p q k (node_with (node_label k) js))

  pub labels_end : (js : List PlainNode) → labels (joined_row p q no_nodes js) ≡ names js ++ []
  labels_end js = labels_onto q p js no_nodes

  -- what holds of each label of both rows
  pub all_joined : (P : PlainLabel → Type 0) (ks : PlainNodes) (js : List PlainNode) → AllByRecursion P (labels ks) → AllByRecursion P (names js) → AllByRecursion P (labels (joined_row p q ks js))
  all_joined P no_nodes js h g = subst (λ z. AllByRecursion P z) (sym (labels_end js)) (all_append P (names js) [] g tt)
  all_joined P (node k ks) js h g = subst (λ z. AllByRecursion P z) (sym (labels_step k ks js))
      (all_append P (names (below (node_label k) js)) _ (all_below P (node_label k) js g)
      (h.0, all_joined P ks (above (node_label k) js) h.1 (all_above P (node_label k) js g)))

  pub joined_ascends : (ks : PlainNodes) (js : List PlainNode) → Ascends label_cmp (labels ks) → Ascends label_cmp (names js) → Ascends label_cmp (labels (joined_row p q ks js))
  joined_ascends no_nodes js h g = subst (λ z. Ascends label_cmp z) (sym (labels_end js ∙ append-nil (names js))) g
  joined_ascends (node k ks) js h g =
      let m = node_label k in
      let high = all_joined (λ x. label_cmp m x ≡ Less) ks (above m js) h.0 (above_higher m js g) in
      let rest = joined_ascends ks (above m js) h.1 (above_ascends m js g) in
      subst (λ z. Ascends label_cmp z) (sym (labels_step k ks js)) (ascends_around m (names (below m js)) _ (below_ascends m js g) (below_lower m js) high rest)

  pub joined_left : (l : PlainLabel) (ks : PlainNodes) (js : List PlainNode) → Has l (labels ks) → Has l (labels (joined_row p q ks js))
  joined_left l no_nodes js h = absurd h
  joined_left l (node k ks) js h = subst (λ z. Has l z) (sym (labels_step k ks js)) (has_right l (names (below (node_label k) js)) _ (elim h [ inl e ↦ inl e | inr m ↦ inr (joined_left l ks (above (node_label k) js) m) ]))

  pub joined_right : (l : PlainLabel) (ks : PlainNodes) (js : List PlainNode) → Ascends label_cmp (names js) → Has l (names js) → Has l (labels (joined_row p q ks js))
  joined_right l no_nodes js a h = subst (λ z. Has l z) (sym (labels_end js)) (has_left l (names js) [] h)
  joined_right l (node k ks) js a h = subst (λ z. Has l z) (sym (labels_step k ks js)) (elim (parts (node_label k) l js h a) [
    | inl x ↦ has_left l (names (below (node_label k) js)) _ x
    | inr y ↦ has_right l (names (below (node_label k) js)) _ (elim y [ inl e ↦ inl e | inr z ↦ inr (joined_right l ks (above (node_label k) js) (above_ascends (node_label k) js a) z) ])
  ])
