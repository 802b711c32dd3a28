-- What is left of a node stands for what is left of its list.
use Rattle.std.proofs.Common.{◌≡◌, ◌≢◌, ℕ, true, false, cond, List, [], refl, ap, sym, subst, ◌∙◌, inl, inr}
use Rattle.std.specs.List.{AllByRecursion}
use Rattle.std.specs.Ordering.{nat_cmp}
use Rattle.std.specs.declared.cmp.Ordering.TheVariants.{Less}
use Rattle.version_set.specs.Pairs.{IsCanonical}
use Rattle.version_set.specs.Members.{members}
use Rattle.keyed_tree.specs.Alike.{IsInner, IsLeaf}
use Rattle.keyed_tree.specs.Data.{PlainLabel, PlainKeyed, label_of, kids_of}
use Rattle.keyed_tree.specs.Kids.{kid_at}
use Rattle.keyed_tree.specs.Lists.{Ascends, Has}
use Rattle.keyed_tree.specs.Order.{label_cmp}
use Rattle.jsonml_tree.proofs.Lists.{source}
use Rattle.archive_tree.specs.Data.{Stamp, PlainNode, inner_node, leaf_node, PlainNodes, no_nodes, node, node_label, node_stamp, nodes_list}
use Rattle.archive_tree.specs.Stands.{nums, under, labels, Stamped, CommonStands, RowStands, StandsFor, EachStands}
use Rattle.archive_tree.proofs.Parts.{each_has, stands_stamped}
use Rattle.archive_tree.proofs.Those.{those_ascend}
use Rattle.record_format.specs.Nodes.{set_in}
use Rattle.archive_cut.specs.Sliced.{clipped, cut_set, is_gone, cut_stamp, sliced_node, sliced_row}
use Rattle.archive_cut.specs.Walked.{IsApart, AreApart}
use Rattle.archive_cut.proofs.Clips.{not_none, some_not_none, gone-clipped}
use Rattle.archive_cut.proofs.Stamps.{members-set_in, IsCanonical-set_in, cut_stamped}
use Rattle.archive_cut.proofs.Windows.{window, nums-window, those-window, all_window, window_of, clipped_some, some_clipped}
use Rattle.archive_cut.proofs.LeftAlts.{left_numbers, left_firsts, sliced_stand, sliced_differ, sliced_in_order, sliced_covered}

pub sliced_label : (i j : ℕ) (q : List (ℕ × ℕ)) (k : PlainNode) → node_label (sliced_node i j q k) ≡ node_label k
sliced_label i j q (inner_node l s ks) = refl
sliced_label i j q (leaf_node l s xs) = refl

module _ (i j : ℕ) where
  -- ---- labels of a row

  all_labels : (P : PlainLabel → Type 0) (q : List (ℕ × ℕ)) (ks : PlainNodes) → AllByRecursion P (labels ks) → AllByRecursion P (labels (sliced_row i j q ks))
  all_labels P q no_nodes h = tt
  all_labels P q (node k ks) h =
      let rest = all_labels P q ks h.1 in
      let here = subst P (sym (sliced_label i j q k)) h.0 in
      elim (is_gone i j (set_in (node_stamp k) q)) as (λ b. AllByRecursion P (labels (cond b (sliced_row i j q ks) (node (sliced_node i j q k) (sliced_row i j q ks))))) [ true ↦ rest | false ↦ (here, rest) ]

  labels_ascend : (q : List (ℕ × ℕ)) (ks : PlainNodes) → Ascends label_cmp (labels ks) → Ascends label_cmp (labels (sliced_row i j q ks))
  labels_ascend q no_nodes h = tt
  labels_ascend q (node k ks) h =
      let rest = labels_ascend q ks h.1 in
      let low = subst (λ l. AllByRecursion (λ m. label_cmp l m ≡ Less) (labels (sliced_row i j q ks))) (sym (sliced_label i j q k)) (all_labels (λ m. label_cmp (node_label k) m ≡ Less) q ks h.0) in
      elim (is_gone i j (set_in (node_stamp k) q)) as (λ b. Ascends label_cmp (labels (cond b (sliced_row i j q ks) (node (sliced_node i j q k) (sliced_row i j q ks))))) [ true ↦ rest | false ↦ (low, rest) ]

  label_stays : (q : List (ℕ × ℕ)) (k : PlainNode) (ks : PlainNodes) → Has k (nodes_list ks) → is_gone i j (set_in (node_stamp k) q) ≡ false → Has (node_label k) (labels (sliced_row i j q ks))
  label_stays q k no_nodes m e = m
  label_stays q k (node x ks) m e = elim m [
    | inl d ↦ (let e' = subst (λ z. is_gone i j (set_in (node_stamp z) q) ≡ false) (sym d) e in rw e' (inl (sliced_label i j q x ∙ ap node_label d)))
    | inr n ↦ (let rest = label_stays q k ks n e in elim (is_gone i j (set_in (node_stamp x) q)) as (λ b. Has (node_label k) (labels (cond b (sliced_row i j q ks) (node (sliced_node i j q x) (sliced_row i j q ks))))) [ true ↦ rest | false ↦ inr rest ])
  ]

  -- ---- nodes

  abbrev pub Cuts : PlainNode → Type 0
  Cuts k = (q : List (ℕ × ℕ)) (ws : List (ℕ × PlainKeyed)) → IsCanonical q → Ascends nat_cmp (nums ws) → window i j ws ≢ [] → StandsFor k ws (members q) → StandsFor (sliced_node i j q k) (window i j ws) (members (cut_set i j q))

  -- the numbers of a node
  numbers_of : (k : PlainNode) (q : List (ℕ × ℕ)) (ws : List (ℕ × PlainKeyed)) → StandsFor k ws (members q) → members (set_in (node_stamp k) q) ≡ nums ws
  numbers_of k q ws h = members-set_in (node_stamp k) q ∙ (stands_stamped k ws (members q) h).effective

  own : (k : PlainNode) (q : List (ℕ × ℕ)) (ws : List (ℕ × PlainKeyed)) → IsCanonical q → StandsFor k ws (members q) → IsCanonical (set_in (node_stamp k) q)
  own k q ws c h = IsCanonical-set_in (node_stamp k) q (nums ws) (members q) (stands_stamped k ws (members q) h) c

  stays : (k : PlainNode) (q : List (ℕ × ℕ)) (ws : List (ℕ × PlainKeyed)) → IsCanonical q → StandsFor k ws (members q) → window i j ws ≢ [] → is_gone i j (set_in (node_stamp k) q) ≡ false
  stays k q ws c h some = gone-clipped i j (set_in (node_stamp k) q) (own k q ws c h) ∙ some_not_none (clipped i j (members (set_in (node_stamp k) q))) (λ e. clipped_some i j ws some (ap (clipped i j) (sym (numbers_of k q ws h)) ∙ e))

  is_left : (k : PlainNode) (q : List (ℕ × ℕ)) (ws : List (ℕ × PlainKeyed)) → IsCanonical q → StandsFor k ws (members q) → is_gone i j (set_in (node_stamp k) q) ≡ false → window i j ws ≢ []
  is_left k q ws c h e = some_clipped i j ws (λ d. not_none (clipped i j (members (set_in (node_stamp k) q))) (sym (gone-clipped i j (set_in (node_stamp k) q) (own k q ws c h)) ∙ e) (ap (clipped i j) (numbers_of k q ws h) ∙ d))

  -- kids in a row, where u gives for each label the list that its kid stands for
  each_cut : (q : List (ℕ × ℕ)) (u : PlainLabel → List (ℕ × PlainKeyed)) → IsCanonical q → ((l : PlainLabel) → Ascends nat_cmp (nums (u l))) → (ks : PlainNodes) → ((k : PlainNode) → Has k (nodes_list ks) → Cuts k)
      → EachStands ks u (members q) → EachStands (sliced_row i j q ks) (λ l. window i j (u l)) (members (cut_set i j q))
  each_cut q u c up no_nodes cut h = tt
  each_cut q u c up (node k ks) cut h =
      let rest = each_cut q u c up ks (λ x m. cut x (inr m)) h.1 in
      elim (is_gone i j (set_in (node_stamp k) q)) as (λ b. is_gone i j (set_in (node_stamp k) q) ≡ b → EachStands (cond b (sliced_row i j q ks) (node (sliced_node i j q k) (sliced_row i j q ks))) (λ l. window i j (u l)) (members (cut_set i j q))) [
        | true ↦ λ e. rest
        | false ↦ λ e. (
          subst (λ l. StandsFor (sliced_node i j q k) (window i j (u l)) (members (cut_set i j q))) (sym (sliced_label i j q k))
              (cut k (inl refl) q (u (node_label k)) c (up (node_label k)) (is_left k q (u (node_label k)) c h.0 e) h.0),
          rest,
        )
      ] refl

  pub row_cut : (q : List (ℕ × ℕ)) (u : PlainLabel → List (ℕ × PlainKeyed)) → IsCanonical q → ((l : PlainLabel) → Ascends nat_cmp (nums (u l))) → (ks : PlainNodes) → ((k : PlainNode) → Has k (nodes_list ks) → Cuts k)
      → RowStands ks u (EachStands ks u (members q))
      → RowStands (sliced_row i j q ks) (λ l. window i j (u l)) (EachStands (sliced_row i j q ks) (λ l. window i j (u l)) (members (cut_set i j q)))
  row_cut q u c up ks cut h = record {
    ascending = labels_ascend q ks h.ascending;
    kids = each_cut q u c up ks cut h.kids;
    covered = λ l some. (
        let from = source node_label l (nodes_list ks) (h.covered l (window_of i j (u l) some)) in
        let stands = each_has ks u (members q) from.item h.kids from.has in
        let some' = subst (λ z. window i j (u z) ≢ []) (sym from.is) some in
        subst (λ z. Has z (labels (sliced_row i j q ks))) from.is (label_stays q from.item ks from.has (stays from.item q (u (node_label from.item)) c stands some')));
  }

  common_cut : (l : PlainLabel) (s : Stamp) (q : List (ℕ × ℕ)) (ws : List (ℕ × PlainKeyed)) → IsCanonical q → window i j ws ≢ [] → CommonStands l s ws (members q) → CommonStands l (cut_stamp i j q s) (window i j ws) (members (cut_set i j q))
  common_cut l s q ws c some h = record {
    some = some;
    labelled = all_window i j (λ t. label_of t ≡ l) ws h.labelled;
    stamped = subst (λ z. Stamped (cut_stamp i j q s) z (members (cut_set i j q))) (sym (nums-window i j ws)) (cut_stamped i j s q (nums ws) c h.stamped);
  }

  mutual
    pub node_cut : (k : PlainNode) → Cuts k
    node_cut (inner_node l s ks) q ws c up some h =
        let own = set_in s q in
        let set : members own ≡ nums ws = members-set_in s q ∙ h.common.stamped.effective in
        let canonical = IsCanonical-set_in s q (nums ws) (members q) h.common.stamped c in
        let row = row_cut own (under ws) canonical (λ m. those_ascend (λ t. kid_at m (kids_of t)) ws up) ks (nodes_cut ks) (subst (λ z. RowStands ks (under ws) (EachStands ks (under ws) z)) (sym set) h.row) in
        let lists : (λ m. window i j (under ws m)) ≡ under (window i j ws) = λ x m. sym (those-window i j (λ t. kid_at m (kids_of t)) ws) x in
        let numbers : members (cut_set i j own) ≡ nums (window i j ws) = left_numbers i j own ws set canonical in
        let new = sliced_row i j own ks in
        record {
          common = common_cut l s q ws c some h.common;
          inners = all_window i j IsInner ws h.inners;
          row = subst (λ z. RowStands new (under (window i j ws)) (EachStands new (under (window i j ws)) z)) numbers
              (subst (λ u. RowStands new u (EachStands new u (members (cut_set i j own)))) lists row);
        }
    node_cut (leaf_node l s xs) q ws c up some h =
        let own = set_in s q in
        let set : members own ≡ nums ws = members-set_in s q ∙ h.common.stamped.effective in
        let canonical = IsCanonical-set_in s q (nums ws) (members q) h.common.stamped c in
        record {
          common = common_cut l s q ws c some h.common;
          leaves = all_window i j IsLeaf ws h.leaves;
          different = sliced_differ i j own ws set canonical xs h.different;
          in_order = sliced_in_order i j own ws set canonical up xs h.different h.alts;
          alts = sliced_stand i j own ws set canonical xs h.alts;
          covered = sliced_covered i j own ws set canonical xs h.alts h.covered;
        }

    pub nodes_cut : (ks : PlainNodes) (k : PlainNode) → Has k (nodes_list ks) → Cuts k
    nodes_cut no_nodes k m = absurd m
    nodes_cut (node x ks) k m = elim m [ inl e ↦ subst Cuts e (node_cut x) | inr n ↦ nodes_cut ks k n ]

  -- ---- the first numbers of what is left differ in each leaf

  each-apart : (q : List (ℕ × ℕ)) (u : PlainLabel → List (ℕ × PlainKeyed)) → IsCanonical q → ((l : PlainLabel) → Ascends nat_cmp (nums (u l))) → (ks : PlainNodes)
      → ((k : PlainNode) → Has k (nodes_list ks) → (ws : List (ℕ × PlainKeyed)) → Ascends nat_cmp (nums ws) → StandsFor k ws (members q) → IsApart i j q k) → EachStands ks u (members q) → AreApart i j q ks
  each-apart q u c up no_nodes each h = tt
  each-apart q u c up (node k ks) each h = (each k (inl refl) (u (node_label k)) (up (node_label k)) h.0, each-apart q u c up ks (λ x m. each x (inr m)) h.1)

  mutual
    node-apart : (k : PlainNode) (q : List (ℕ × ℕ)) (ws : List (ℕ × PlainKeyed)) → IsCanonical q → Ascends nat_cmp (nums ws) → StandsFor k ws (members q) → IsApart i j q k
    node-apart (inner_node l s ks) q ws c up h =
        let set : members (set_in s q) ≡ nums ws = members-set_in s q ∙ h.common.stamped.effective in
        let canonical = IsCanonical-set_in s q (nums ws) (members q) h.common.stamped c in
        each-apart (set_in s q) (under ws) canonical (λ m. those_ascend (λ t. kid_at m (kids_of t)) ws up) ks (λ k m vs rise st. nodes-apart ks k m (set_in s q) vs canonical rise st) (subst (λ z. EachStands ks (under ws) z) (sym set) h.row.kids)
    node-apart (leaf_node l s xs) q ws c up h =
        let set : members (set_in s q) ≡ nums ws = members-set_in s q ∙ h.common.stamped.effective in
        let canonical = IsCanonical-set_in s q (nums ws) (members q) h.common.stamped c in
        left_firsts i j (set_in s q) ws set canonical up xs h.different h.alts

    pub nodes-apart : (ks : PlainNodes) (k : PlainNode) → Has k (nodes_list ks) → (q : List (ℕ × ℕ)) (ws : List (ℕ × PlainKeyed)) → IsCanonical q → Ascends nat_cmp (nums ws) → StandsFor k ws (members q) → IsApart i j q k
    nodes-apart no_nodes k m = absurd m
    nodes-apart (node x ks) k m = elim m [ inl e ↦ subst (λ z. (q : List (ℕ × ℕ)) (ws : List (ℕ × PlainKeyed)) → IsCanonical q → Ascends nat_cmp (nums ws) → StandsFor z ws (members q) → IsApart i j q z) e (node-apart x) | inr n ↦ nodes-apart ks k n ]

  pub row-apart : (q : List (ℕ × ℕ)) (u : PlainLabel → List (ℕ × PlainKeyed)) → IsCanonical q → ((l : PlainLabel) → Ascends nat_cmp (nums (u l))) → (ks : PlainNodes) → EachStands ks u (members q) → AreApart i j q ks
  row-apart q u c up ks h = each-apart q u c up ks (λ k m ws rise st. nodes-apart ks k m q ws c rise st) h
