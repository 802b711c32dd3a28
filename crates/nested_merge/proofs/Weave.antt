-- The labels of a row with the kids of one more version.
use Rattle.std.proofs.Common.{◌≡◌, ℕ, true, false, cond, List, [], ◌∷◌, ◌++◌, map, Option, Some, None, refl, ap, sym, subst, ◌∙◌, ◌⊎◌, inl, inr}
use Rattle.std.proofs.lemmas.List.{append-nil}
use Rattle.std.specs.List.{AllByRecursion}
use Rattle.std.specs.Ordering.{is_lt, is_le}
use Rattle.std.specs.declared.cmp.Ordering.TheVariants.{Less, Equal, Greater}
use Rattle.keyed_tree.specs.Data.{PlainLabel, PlainKeyed, inner, leaf, label_of}
use Rattle.keyed_tree.specs.Kids.{kid_at}
use Rattle.keyed_tree.specs.Laws.{label_cmp_total, label_cmp_exact}
use Rattle.keyed_tree.specs.Lists.{Ascends, Has}
use Rattle.keyed_tree.specs.Order.{label_cmp}
use Rattle.jsonml_tree.proofs.Lists.{all_has, not_itself}
use Rattle.keyed_tree.proofs.Kids.{is_lt-Less}
use Rattle.archive_tree.specs.Data.{Stamp, PlainNode, inner_node, leaf_node, PlainNodes, no_nodes, node, node_label}
use Rattle.archive_tree.specs.Stands.{labels}
use Rattle.nested_merge.specs.Merged.{below, above, fresh_onto, merged, merged_row, started, turn, vanished}
use Rattle.nested_merge.proofs.Picked.{all_append}
use Rattle.nested_merge.proofs.OneVersion.{fresh_label}

le_less : (x m l : PlainLabel) → is_le (label_cmp x m) ≡ true → label_cmp m l ≡ Less → label_cmp x l ≡ Less
le_less x m l h g =
    elim (label_cmp x m) as (λ o. label_cmp x m ≡ o → is_le o ≡ true → label_cmp x l ≡ Less) [
      | Less ↦ λ e t. label_cmp_total.trans x m l e g
      | Equal ↦ λ e t. label_cmp_total.congr x m l e ∙ g
      | Greater ↦ λ e t. cc
    ] refl h

not_le : (x m : PlainLabel) → is_le (label_cmp x m) ≡ false → label_cmp m x ≡ Less
not_le x m h =
    let back = label_cmp_total.antisymm m x in
    elim (label_cmp x m) as (λ o. label_cmp x m ≡ o → is_le o ≡ false → label_cmp m x ≡ Less) [
      | Less ↦ λ e t. cc
      | Equal ↦ λ e t. cc
      | Greater ↦ λ e t. rw e at back
    ] refl h

lookup_less : (l : PlainLabel) (c : PlainKeyed) (cs : List PlainKeyed) → label_cmp (label_of c) l ≡ Less → kid_at l (c ∷ cs) ≡ kid_at l cs
lookup_less l c cs e = rw e

pub above_lookup : (m l : PlainLabel) (cs : List PlainKeyed) → label_cmp m l ≡ Less → kid_at l (above m cs) ≡ kid_at l cs
above_lookup m l [] h = refl
above_lookup m l (c ∷ cs) h =
    elim (is_le (label_cmp (label_of c) m)) as (λ b. is_le (label_cmp (label_of c) m) ≡ b → kid_at l (cond b (above m cs) (c ∷ cs)) ≡ kid_at l (c ∷ cs)) [
      | true ↦ λ e. above_lookup m l cs h ∙ sym (lookup_less l c cs (le_less (label_of c) m l e h))
      | false ↦ λ e. refl
    ] refl

-- ---- facts of each kid

pub all_above : (P : PlainLabel → Type 0) (m : PlainLabel) (cs : List PlainKeyed) → AllByRecursion P (map label_of cs) → AllByRecursion P (map label_of (above m cs))
all_above P m [] h = tt
all_above P m (c ∷ cs) h = elim (is_le (label_cmp (label_of c) m)) as (λ b. AllByRecursion P (map label_of (cond b (above m cs) (c ∷ cs)))) [ true ↦ all_above P m cs h.1 | false ↦ h ]

pub all_below : (P : PlainLabel → Type 0) (m : PlainLabel) (cs : List PlainKeyed) → AllByRecursion P (map label_of cs) → AllByRecursion P (map label_of (below m cs))
all_below P m [] h = tt
all_below P m (c ∷ cs) h = (let rest = all_below P m cs h.1 in elim (is_lt (label_cmp (label_of c) m)) as (λ b. AllByRecursion P (map label_of (cond b (c ∷ below m cs) []))) [ true ↦ (h.0, rest) | false ↦ tt ])

pub above_ascends : (m : PlainLabel) (cs : List PlainKeyed) → Ascends label_cmp (map label_of cs) → Ascends label_cmp (map label_of (above m cs))
above_ascends m [] h = tt
above_ascends m (c ∷ cs) h = elim (is_le (label_cmp (label_of c) m)) as (λ b. Ascends label_cmp (map label_of (cond b (above m cs) (c ∷ cs)))) [ true ↦ above_ascends m cs h.1 | false ↦ h ]

pub below_ascends : (m : PlainLabel) (cs : List PlainKeyed) → Ascends label_cmp (map label_of cs) → Ascends label_cmp (map label_of (below m cs))
below_ascends m [] h = tt
below_ascends m (c ∷ cs) h =
    let rest = below_ascends m cs h.1 in
    let low = all_below (λ x. label_cmp (label_of c) x ≡ Less) m cs h.0 in
    elim (is_lt (label_cmp (label_of c) m)) as (λ b. Ascends label_cmp (map label_of (cond b (c ∷ below m cs) []))) [ true ↦ (low, rest) | false ↦ tt ]

lower_all : (m x : PlainLabel) (xs : List PlainLabel) → label_cmp m x ≡ Less → AllByRecursion (λ y. label_cmp x y ≡ Less) xs → AllByRecursion (λ y. label_cmp m y ≡ Less) xs
lower_all m x [] e h = tt
lower_all m x (y ∷ ys) e h = (label_cmp_total.trans m x y e h.0, lower_all m x ys e h.1)

pub above_higher : (m : PlainLabel) (cs : List PlainKeyed) → Ascends label_cmp (map label_of cs) → AllByRecursion (λ x. label_cmp m x ≡ Less) (map label_of (above m cs))
above_higher m [] h = tt
above_higher m (c ∷ cs) h =
    elim (is_le (label_cmp (label_of c) m)) as (λ b. is_le (label_cmp (label_of c) m) ≡ b → AllByRecursion (λ x. label_cmp m x ≡ Less) (map label_of (cond b (above m cs) (c ∷ cs)))) [
      | true ↦ λ e. above_higher m cs h.1
      | false ↦ λ e. (not_le (label_of c) m e, lower_all m (label_of c) (map label_of cs) (not_le (label_of c) m e) h.0)
    ] refl

pub below_lower : (m : PlainLabel) (cs : List PlainKeyed) → AllByRecursion (λ x. label_cmp x m ≡ Less) (map label_of (below m cs))
below_lower m [] = tt
below_lower m (c ∷ cs) =
    let rest = below_lower m cs in
    elim (is_lt (label_cmp (label_of c) m)) as (λ b. is_lt (label_cmp (label_of c) m) ≡ b → AllByRecursion (λ x. label_cmp x m ≡ Less) (map label_of (cond b (c ∷ below m cs) []))) [
      | true ↦ λ e. (is_lt-Less _ e, rest)
      | false ↦ λ e. tt
    ] refl

pub has_above : (m : PlainLabel) (c : PlainKeyed) (cs : List PlainKeyed) → Has c (above m cs) → Has c cs
has_above m c [] h = h
has_above m c (d ∷ cs) h = elim (is_le (label_cmp (label_of d) m)) as (λ b. Has c (cond b (above m cs) (d ∷ cs)) → Has c (d ∷ cs)) [ true ↦ λ g. inr (has_above m c cs g) | false ↦ λ g. g ] h

pub has_below : (m : PlainLabel) (c : PlainKeyed) (cs : List PlainKeyed) → Has c (below m cs) → Has c cs
has_below m c [] h = h
has_below m c (d ∷ cs) h = elim (is_lt (label_cmp (label_of d) m)) as (λ b. Has c (cond b (d ∷ below m cs) []) → Has c (d ∷ cs)) [
  | true ↦ λ g. elim g [ inl e ↦ inl e | inr k ↦ inr (has_below m c cs k) ]
  | false ↦ λ g. absurd g
] h

high_above : (m l : PlainLabel) (cs : List PlainKeyed) → label_cmp m l ≡ Less → Has l (map label_of cs) → Has l (map label_of (above m cs))
high_above m l [] e h = h
high_above m l (c ∷ cs) e h =
    elim (is_le (label_cmp (label_of c) m)) as (λ b. is_le (label_cmp (label_of c) m) ≡ b → Has l (map label_of (cond b (above m cs) (c ∷ cs)))) [
      | true ↦ λ t. elim h [
        | inl d ↦ absurd (not_itself label_cmp_total l (subst (λ x. label_cmp x l ≡ Less) d (le_less (label_of c) m l t e)))
        | inr k ↦ high_above m l cs e k
      ]
      | false ↦ λ t. h
    ] refl

-- a label among the kids is below, at or above m
pub parts : (m l : PlainLabel) (cs : List PlainKeyed) → Has l (map label_of cs) → Ascends label_cmp (map label_of cs) → Has l (map label_of (below m cs)) ⊎ ((m ≡ l) ⊎ Has l (map label_of (above m cs)))
parts m l [] h a = absurd h
parts m l (c ∷ cs) h a =
    elim (label_cmp (label_of c) m) as (λ o. label_cmp (label_of c) m ≡ o → Has l (map label_of (cond (is_lt o) (c ∷ below m cs) [])) ⊎ ((m ≡ l) ⊎ Has l (map label_of (cond (is_le o) (above m cs) (c ∷ cs))))) [
      | Less ↦ λ e. elim h [
        | inl d ↦ inl (inl d)
        | inr k ↦ elim (parts m l cs k a.1) [ inl x ↦ inl (inr x) | inr x ↦ inr x ]
      ]
      | Equal ↦ λ e. elim h [
        | inl d ↦ inr (inl (sym (label_cmp_exact _ _ e) ∙ d))
        | inr k ↦ inr (inr (later (label_cmp_exact _ _ e) k))
      ]
      | Greater ↦ λ e. inr (inr h)
    ] refl
  where
    later : label_of c ≡ m → Has l (map label_of cs) → Has l (map label_of (above m cs))
    later e k = high_above m l cs (subst (λ x. label_cmp x l ≡ Less) e (all_has (λ x. label_cmp (label_of c) x ≡ Less) (map label_of cs) l a.0 k)) k

-- ---- lists one after another

pub has_left : {K : Type 0} (k : K) (xs ys : List K) → Has k xs → Has k (xs ++ ys)
has_left k [] ys h = absurd h
has_left k (x ∷ xs) ys h = elim h [ inl e ↦ inl e | inr m ↦ inr (has_left k xs ys m) ]

pub has_right : {K : Type 0} (k : K) (xs ys : List K) → Has k ys → Has k (xs ++ ys)
has_right k [] ys h = h
has_right k (x ∷ xs) ys h = inr (has_right k xs ys h)

ascends_around : (m : PlainLabel) (xs ys : List PlainLabel) → Ascends label_cmp xs → AllByRecursion (λ x. label_cmp x m ≡ Less) xs → AllByRecursion (λ y. label_cmp m y ≡ Less) ys → Ascends label_cmp ys → Ascends label_cmp (xs ++ m ∷ ys)
ascends_around m [] ys a h g b = (g, b)
ascends_around m (x ∷ xs) ys a h g b =
    (all_append (λ y. label_cmp x y ≡ Less) xs (m ∷ ys) a.0 (h.0, lower_all x m ys h.0 g), ascends_around m xs ys a.1 h.1 g b)

-- ---- the labels of a row

pub labels_onto : (s : Stamp) (bs : List PlainKeyed) (r : PlainNodes) → labels (fresh_onto s bs r) ≡ map label_of bs ++ labels r
labels_onto s [] r = refl
labels_onto s (b ∷ bs) r = λ i. fresh_label s b i ∷ labels_onto s bs r i

pub turn_label : (n : ℕ) (q : List (ℕ × ℕ)) (k : PlainNode) (o : Option PlainKeyed) → node_label (turn (vanished q k) (λ c. merged n q k c) o) ≡ node_label k
turn_label n q (inner_node l s ks) None = refl
turn_label n q (leaf_node l s xs) None = refl
turn_label n q (inner_node l s ks) (Some (inner m cs)) = refl
turn_label n q (inner_node l s ks) (Some (leaf m b)) = refl
turn_label n q (leaf_node l s xs) (Some (inner m cs)) = refl
turn_label n q (leaf_node l s xs) (Some (leaf m b)) = refl

module _ (n : ℕ) (q : List (ℕ × ℕ)) where
  pub labels_step : (k : PlainNode) (ks : PlainNodes) (cs : List PlainKeyed)
      → labels (merged_row n q (node k ks) cs) ≡ map label_of (below (node_label k) cs) ++ node_label k ∷ labels (merged_row n q ks (above (node_label k) cs))
  labels_step k ks cs =
      let low = below (node_label k) cs in
      let rest = merged_row n q ks (above (node_label k) cs) in
      let here = turn (vanished q k) (λ c. merged n q k c) (kid_at (node_label k) cs) in
      labels_onto (started n q) low (node here rest) ∙ ap (λ x. map label_of low ++ x ∷ labels rest) (turn_label n q k (kid_at (node_label k) cs))

  pub labels_end : (cs : List PlainKeyed) → labels (merged_row n q no_nodes cs) ≡ map label_of cs ++ []
  labels_end cs = labels_onto (started n q) cs no_nodes

  -- what holds of each label of the old row and of the new kids
  pub all_merged : (P : PlainLabel → Type 0) (ks : PlainNodes) (cs : List PlainKeyed) → AllByRecursion P (labels ks) → AllByRecursion P (map label_of cs) → AllByRecursion P (labels (merged_row n q ks cs))
  all_merged P no_nodes cs h g = subst (λ z. AllByRecursion P z) (sym (labels_end cs)) (all_append P (map label_of cs) [] g tt)
  all_merged P (node k ks) cs h g = subst (λ z. AllByRecursion P z) (sym (labels_step k ks cs))
      (all_append P (map label_of (below (node_label k) cs)) _ (all_below P (node_label k) cs g)
      (h.0, all_merged P ks (above (node_label k) cs) h.1 (all_above P (node_label k) cs g)))

  pub merged_ascends : (ks : PlainNodes) (cs : List PlainKeyed) → Ascends label_cmp (labels ks) → Ascends label_cmp (map label_of cs) → Ascends label_cmp (labels (merged_row n q ks cs))
  merged_ascends no_nodes cs h g = subst (λ z. Ascends label_cmp z) (sym (labels_end cs ∙ append-nil (map label_of cs))) g
  merged_ascends (node k ks) cs h g =
      let m = node_label k in
      let high = all_merged (λ x. label_cmp m x ≡ Less) ks (above m cs) h.0 (above_higher m cs g) in
      let rest = merged_ascends ks (above m cs) h.1 (above_ascends m cs g) in
      subst (λ z. Ascends label_cmp z) (sym (labels_step k ks cs)) (ascends_around m (map label_of (below m cs)) _ (below_ascends m cs g) (below_lower m cs) high rest)

  pub merged_old : (l : PlainLabel) (ks : PlainNodes) (cs : List PlainKeyed) → Has l (labels ks) → Has l (labels (merged_row n q ks cs))
  merged_old l no_nodes cs h = absurd h
  merged_old l (node k ks) cs h = subst (λ z. Has l z) (sym (labels_step k ks cs)) (has_right l (map label_of (below (node_label k) cs)) _ (elim h [ inl e ↦ inl e | inr m ↦ inr (merged_old l ks (above (node_label k) cs) m) ]))

  pub merged_new : (l : PlainLabel) (ks : PlainNodes) (cs : List PlainKeyed) → Ascends label_cmp (map label_of cs) → Has l (map label_of cs) → Has l (labels (merged_row n q ks cs))
  merged_new l no_nodes cs a h = subst (λ z. Has l z) (sym (labels_end cs)) (has_left l (map label_of cs) [] h)
  merged_new l (node k ks) cs a h = subst (λ z. Has l z) (sym (labels_step k ks cs)) (elim (parts (node_label k) l cs h a) [
    | inl x ↦ has_left l (map label_of (below (node_label k) cs)) _ x
    | inr y ↦ has_right l (map label_of (below (node_label k) cs)) _ (elim y [ inl e ↦ inl e | inr z ↦ inr (merged_new l ks (above (node_label k) cs) (above_ascends (node_label k) cs a) z) ])
  ])
