-- A node that two archives have stands for the versions of both.
use Rattle.std.proofs.Common.{◌≡◌, ◌≢◌, ℕ, ◌<◌, ◌≤◌, List, [], ◌∷◌, ◌++◌, Some, None, refl, ap, sym, subst, ◌∙◌, ◌⊎◌, inl, inr}
use Rattle.std.proofs.lemmas.List.{append-nil}
use Rattle.std.specs.Option.{unwrap_or}
use Rattle.std.specs.List.{AllByRecursion}
use Rattle.std.specs.declared.cmp.Ordering.TheVariants.{Less}
use Rattle.version_set.specs.Pairs.{IsCanonical}
use Rattle.version_set.specs.Members.{members}
use Rattle.keyed_tree.specs.Alike.{IsInner, IsLeaf}
use Rattle.keyed_tree.specs.Data.{PlainLabel, PlainKeyed, label_of, kids_of}
use Rattle.keyed_tree.specs.Kids.{kid_at}
use Rattle.keyed_tree.specs.Laws.{label_cmp_total}
use Rattle.keyed_tree.specs.Lists.{Ascends, Has}
use Rattle.keyed_tree.specs.Order.{label_cmp}
use Rattle.keyed_tree.specs.Paths.{node_at as kid_node}
use Rattle.jsonml_tree.proofs.Lists.{all_has, has_map, not_itself, not_both}
use Rattle.archive_tree.specs.Data.{Stamp, PlainNode, inner_node, leaf_node, PlainNodes, no_nodes, node, node_label, nodes_list}
use Rattle.archive_tree.specs.Stands.{Stamped, nums, under, labels, CommonStands, RowStands, StandsFor, EachStands}
use Rattle.archive_tree.proofs.Parts.{each_has, not_both_kinds}
use Rattle.archive_tree.proofs.Those.{all_those, those_has}
use Rattle.nested_merge.proofs.Alikes.{AlikeBelow}
use Rattle.nested_merge.proofs.Picked.{all_append, no_items}
use Rattle.nested_merge.proofs.Stamps.{Below, eff-members, eff_canonical}
use Rattle.archive_join.specs.Joined.{alone, paired, alone_node, alone_onto, below, above, alone_or_joined, joined_node, joined_row}
use Rattle.archive_join.proofs.BothSets.{Above, paired_stamped, left_stamped, right_stamped}
use Rattle.archive_join.proofs.Weave.{names, has_found, not_found, high_above, above_ascends, above_higher, below_lower, has_above, has_below, alone_label, alone_or_joined_label, joined_ascends, joined_left, joined_right}
use Rattle.archive_join.proofs.Alts.{those_both, nums_both, alts_join, bodies_differ, bodies_covered, firsts_ascend}
use Rattle.archive_tree.specs.Seek.{node_with}

-- the sets of a parent in the two archives: the numbers of the first are below m, those of the second from m on
pub record Apart (m : ℕ) (p q : List (ℕ × ℕ)) : Type 0 where
  pub left : IsCanonical p
  pub right : IsCanonical q
  pub low : Below m (members p)
  pub high : Above m (members q)

-- each tree of the first list is alike with each of the second, below its label
abbrev pub AlikeLists : List (ℕ × PlainKeyed) → List (ℕ × PlainKeyed) → Type 0
AlikeLists ws zs = (w z : ℕ × PlainKeyed) → Has w ws → Has z zs → AlikeBelow w.1 z.1

abbrev pub Joins : ℕ → PlainNode → Type 0
Joins m k = (p q : List (ℕ × ℕ)) (j : PlainNode) (ws zs : List (ℕ × PlainKeyed)) → Apart m p q → Below m (nums ws) → Above m (nums zs) → node_label j ≡ node_label k → AlikeLists ws zs
    → StandsFor k ws (members p) → StandsFor j zs (members q) → StandsFor (joined_node p q k j) (ws ++ zs) (members p ++ members q)

-- ---- trees that are alike

below_path : (l : PlainLabel) (path : List PlainLabel) (k j : PlainKeyed) → kid_at l (kids_of k) ≡ Some j → kid_node (l ∷ path) k ≡ kid_node path j
below_path l path k j e = rw e

alike_kids : (l : PlainLabel) (k j c d : PlainKeyed) → kid_at l (kids_of k) ≡ Some j → kid_at l (kids_of c) ≡ Some d → AlikeBelow k c → AlikeBelow j d
alike_kids l k j c d e f h path x y a b = h (l ∷ path) x y (below_path l path k j e ∙ a) (below_path l path c d f ∙ b)

pub alike_under : (l : PlainLabel) (ws zs : List (ℕ × PlainKeyed)) → AlikeLists ws zs → AlikeLists (under ws l) (under zs l)
alike_under l ws zs h w z i j =
    let our = those_has (λ k. kid_at l (kids_of k)) w.0 w.1 ws i in
    let their = those_has (λ k. kid_at l (kids_of k)) z.0 z.1 zs j in
    alike_kids l our.tree w.1 their.tree z.1 our.gives their.gives (h (w.0, our.tree) (z.0, their.tree) our.has their.has)

-- a list that is not empty has a first tree
first_of : (P : PlainKeyed → Type 0) (ws : List (ℕ × PlainKeyed)) → ws ≢ [] → AllByRecursion (λ w. P w.1) ws → (w : ℕ × PlainKeyed) × (Has w ws × P w.1)
first_of P [] s h = absurd (s refl)
first_of P (w ∷ ws) s h = (w, (inl refl, h.0))

pub two_kinds : (ws zs : List (ℕ × PlainKeyed)) → ws ≢ [] → zs ≢ [] → AlikeLists ws zs → AllByRecursion (λ w. IsInner w.1) ws → ¬ (AllByRecursion (λ w. IsLeaf w.1) zs)
two_kinds ws zs s t h f g =
    let our = first_of IsInner ws s f in
    let their = first_of IsLeaf zs t g in
    not_both_kinds their.0.1 ((h our.0 their.0 our.1.0 their.1.0 [] our.0.1 their.0.1 refl refl).0 our.1.1) their.1.1

pub kinds_two : (ws zs : List (ℕ × PlainKeyed)) → ws ≢ [] → zs ≢ [] → AlikeLists ws zs → AllByRecursion (λ w. IsLeaf w.1) ws → ¬ (AllByRecursion (λ w. IsInner w.1) zs)
kinds_two ws zs s t h f g =
    let our = first_of IsLeaf ws s f in
    let their = first_of IsInner zs t g in
    not_both_kinds our.0.1 ((h our.0 their.0 our.1.0 their.1.0 [] our.0.1 their.0.1 refl refl).1 their.1.1) our.1.1

module _ (m : ℕ) (from : 1 ≤ m) where
  -- ---- what one archive alone has

  common_left : (l : PlainLabel) (s : Stamp) (p q : List (ℕ × ℕ)) (ws : List (ℕ × PlainKeyed)) → Apart m p q → Below m (nums ws) → CommonStands l s ws (members p) → CommonStands l (alone p q s) ws (members p ++ members q)
  common_left l s p q ws a low h = record { some = h.some; labelled = h.labelled; stamped = left_stamped m p q a.left a.right a.low a.high s (nums ws) low h.stamped }

  common_right : (l : PlainLabel) (s : Stamp) (p q : List (ℕ × ℕ)) (zs : List (ℕ × PlainKeyed)) → Apart m p q → Above m (nums zs) → CommonStands l s zs (members q) → CommonStands l (alone q p s) zs (members p ++ members q)
  common_right l s p q zs a high h = record { some = h.some; labelled = h.labelled; stamped = right_stamped m p q a.left a.right a.low a.high s (nums zs) high h.stamped }

  left_stands : (k : PlainNode) (p q : List (ℕ × ℕ)) (ws : List (ℕ × PlainKeyed)) → Apart m p q → Below m (nums ws) → StandsFor k ws (members p) → StandsFor (alone_node p q k) ws (members p ++ members q)
  left_stands (inner_node l s ks) p q ws a low h = record { common = common_left l s p q ws a low h.common; inners = h.inners; row = h.row }
  left_stands (leaf_node l s xs) p q ws a low h = record { common = common_left l s p q ws a low h.common; leaves = h.leaves; different = h.different; in_order = h.in_order; alts = h.alts; covered = h.covered }

  right_stands : (j : PlainNode) (p q : List (ℕ × ℕ)) (zs : List (ℕ × PlainKeyed)) → Apart m p q → Above m (nums zs) → StandsFor j zs (members q) → StandsFor (alone_node q p j) zs (members p ++ members q)
  right_stands (inner_node l s ks) p q zs a high h = record { common = common_right l s p q zs a high h.common; inners = h.inners; row = h.row }
  right_stands (leaf_node l s xs) p q zs a high h = record { common = common_right l s p q zs a high h.common; leaves = h.leaves; different = h.different; in_order = h.in_order; alts = h.alts; covered = h.covered }

  -- ---- rows, whose labels lead to the lists u in the first archive, v in the second, and w in both

  module _ (p q : List (ℕ × ℕ)) (apart : Apart m p q) (u v w : PlainLabel → List (ℕ × PlainKeyed)) (both : (l : PlainLabel) → w l ≡ u l ++ v l)
      (low : (l : PlainLabel) → Below m (nums (u l))) (high : (l : PlainLabel) → Above m (nums (v l))) (alike : (l : PlainLabel) → AlikeLists (u l) (v l)) where
    abbrev Now : PlainNodes → Type 0
    Now ks = EachStands ks w (members p ++ members q)

    abbrev Theirs : List PlainNode → Type 0
    Theirs js = (j : PlainNode) → Has j js → StandsFor j (v (node_label j)) (members q)

    right_stand : (js : List PlainNode) (r : PlainNodes) → Theirs js → ((j : PlainNode) → Has j js → u (node_label j) ≡ []) → Now r → Now (alone_onto q p js r)
    right_stand [] r t e h = h
    right_stand (j ∷ js) r t e h =
        let here = right_stands j p q (v (node_label j)) apart (high (node_label j)) (t j (inl refl)) in
        let list : w (node_label (alone_node q p j)) ≡ v (node_label j) = ap w (alone_label q p j) ∙ both (node_label j) ∙ ap (λ z. z ++ v (node_label j)) (e j (inl refl)) in
        (subst (λ z. StandsFor (alone_node q p j) z (members p ++ members q)) (sym list) here, right_stand js r (λ i n. t i (inr n)) (λ i n. e i (inr n)) h)

    alone_or_joined_stands : (k : PlainNode) (js : List PlainNode) → Joins m k → StandsFor k (u (node_label k)) (members p) → Theirs js → (¬ (Has (node_label k) (names js)) → v (node_label k) ≡ [])
        → StandsFor (alone_or_joined (alone_node p q k) (λ j. joined_node p q k j) (node_with (node_label k) js)) (w (node_label k)) (members p ++ members q)
    alone_or_joined_stands k js joins h t none =
        let l = node_label k in
        elim (node_with l js) as (λ o. node_with l js ≡ o → StandsFor (alone_or_joined (alone_node p q k) (λ j. joined_node p q k j) o) (w l) (members p ++ members q)) [
          | None ↦ λ e. subst (λ z. StandsFor (alone_node p q k) z (members p ++ members q)) (sym (both l ∙ ap (λ z. u l ++ z) (none (not_found l js e)) ∙ append-nil (u l))) (left_stands k p q (u l) apart (low l) h)
          | Some j ↦ λ e. (let found = has_found l j js e in
              let theirs : StandsFor j (v l) (members q) = subst (λ z. StandsFor j (v z) (members q)) found.1 (t j found.0) in
              subst (λ z. StandsFor (joined_node p q k j) z (members p ++ members q)) (sym (both l)) (joins p q j (u l) (v l) apart (low l) (high l) found.1 (alike l) h theirs))
        ] refl

    each_joins : (ks : PlainNodes) (js : List PlainNode) → ((k : PlainNode) → Has k (nodes_list ks) → Joins m k)
        → Ascends label_cmp (labels ks) → Ascends label_cmp (names js) → EachStands ks u (members p) → Theirs js
        → ((l : PlainLabel) → Has l (labels ks) → ¬ (Has l (names js)) → v l ≡ [])
        → ((j : PlainNode) → Has j js → ¬ (Has (node_label j) (labels ks)) → u (node_label j) ≡ [])
        → Now (joined_row p q ks js)
    each_joins no_nodes js joins a b h t ours theirs = right_stand js no_nodes t (λ j n. theirs j n (λ x. x)) tt
    each_joins (node k ks) js joins a b h t ours theirs =
        let l = node_label k in
        let here = alone_or_joined_stands k js (joins k (inl refl)) h.0 t (ours l (inl refl)) in
        let higher : (j : PlainNode) → Has j (above l js) → ¬ (Has (node_label j) (labels ks)) → ¬ (Has (node_label j) (labels (node k ks))) =
        λ j i d g. elim g [
          | inl e ↦ not_itself label_cmp_total l (subst (λ x. label_cmp l x ≡ Less) (sym e) (all_has (λ x. label_cmp l x ≡ Less) (names (above l js)) (node_label j) (above_higher l js b) (has_map node_label j (above l js) i)))
          | inr x ↦ d x
        ] in
        let lower : (j : PlainNode) → Has j (below l js) → ¬ (Has (node_label j) (labels (node k ks))) =
        λ j i g. (let less = all_has (λ x. label_cmp x l ≡ Less) (names (below l js)) (node_label j) (below_lower l js) (has_map node_label j (below l js) i) in elim g [
          | inl e ↦ not_itself label_cmp_total l (subst (λ x. label_cmp x l ≡ Less) (sym e) less)
          | inr x ↦ not_both label_cmp_total (node_label j) l less (all_has (λ x. label_cmp l x ≡ Less) (labels ks) (node_label j) a.0 x)
        ]) in
        let here' = subst (λ x. StandsFor (alone_or_joined (alone_node p q k) (λ j. joined_node p q k j) (node_with l js)) (w x) (members p ++ members q)) (sym (alone_or_joined_label p q k (node_with l js))) here in
        let rest = each_joins ks (above l js) (λ j i. joins j (inr i)) a.1 (above_ascends l js b) h.1
        (λ j i. t j (has_above l j js i))
        (λ x i d. ours x (inr i) (λ g. d (high_above l x js (all_has (λ y. label_cmp l y ≡ Less) (labels ks) x a.0 i) g)))
        (λ j i d. theirs j (has_above l j js i) (higher j i d)) in
        right_stand (below l js) _ (λ j i. t j (has_below l j js i)) (λ j i. theirs j (has_below l j js i) (lower j i)) (here', rest)

    split : (xs ys : List (ℕ × PlainKeyed)) → xs ++ ys ≢ [] → (xs ≢ []) ⊎ (ys ≢ [])
    split [] ys g = inr g
    split (x ∷ xs) ys g = inl (λ d. cc)

    pub row_joins : (ks js : PlainNodes) → ((k : PlainNode) → Has k (nodes_list ks) → Joins m k)
        → RowStands ks u (EachStands ks u (members p)) → RowStands js v (EachStands js v (members q))
        → RowStands (joined_row p q ks (nodes_list js)) w (EachStands (joined_row p q ks (nodes_list js)) w (members p ++ members q))
    row_joins ks js joins h g = record {
      ascending = joined_ascends p q ks (nodes_list js) h.ascending g.ascending;
      kids = each_joins ks (nodes_list js) joins h.ascending g.ascending h.kids (λ j i. each_has js v (members q) j g.kids i)
          (λ l i d. no_items (v l) (λ e. d (g.covered l e))) (λ j i d. no_items (u (node_label j)) (λ e. d (h.covered (node_label j) e)));
      covered = λ l e. elim (split (u l) (v l) (λ d. e (both l ∙ d))) [
        | inl x ↦ joined_left p q l ks (nodes_list js) (h.covered l x)
        | inr y ↦ joined_right p q l ks (nodes_list js) g.ascending (g.covered l y)
      ];
    }

  -- ---- nodes

  common_both : (l x : PlainLabel) (s t : Stamp) (p q : List (ℕ × ℕ)) (ws zs : List (ℕ × PlainKeyed)) → Apart m p q → Below m (nums ws) → Above m (nums zs) → x ≡ l
      → CommonStands l s ws (members p) → CommonStands x t zs (members q) → CommonStands l (paired p q s t) (ws ++ zs) (members p ++ members q)
  common_both l x s t p q ws zs a low high e h g = record {
    some = some_both ws h.some;
    labelled = all_append (λ w. label_of w.1 ≡ l) ws zs h.labelled (subst (λ y. AllByRecursion (λ w. label_of w.1 ≡ y) zs) e g.labelled);
    stamped = subst (λ z. Stamped (paired p q s t) z (members p ++ members q)) (sym (nums_both ws zs)) (paired_stamped m from p q a.left a.right a.low a.high s t (nums ws) (nums zs) low high h.stamped g.stamped);
  }
    where
      some_both : (ws : List (ℕ × PlainKeyed)) → ws ≢ [] → ws ++ zs ≢ []
      some_both [] f d = f refl
      some_both (w ∷ ws) f d = cc

  -- the sets of two nodes are apart where those of their parents are
  inside : (p q : List (ℕ × ℕ)) (s t : Stamp) (ns ks : List ℕ) → Apart m p q → Below m ns → Above m ks → Stamped s ns (members p) → Stamped t ks (members q) → Apart m (unwrap_or s p) (unwrap_or t q)
  inside p q s t ns ks a low high h g = record {
    left = eff_canonical s p ns (members p) h a.left;
    right = eff_canonical t q ks (members q) g a.right;
    low = subst (Below m) (sym (eff-members s p ∙ h.effective)) low;
    high = subst (Above m) (sym (eff-members t q ∙ g.effective)) high;
  }

  mutual
    pub node_joins : (k : PlainNode) → Joins m k
    node_joins (inner_node l s ks) p q (inner_node x t js) ws zs a low high e alike h g =
        let set : members (unwrap_or s p) ≡ nums ws = eff-members s p ∙ h.common.stamped.effective in
        let their : members (unwrap_or t q) ≡ nums zs = eff-members t q ∙ g.common.stamped.effective in
        let row = row_joins (unwrap_or s p) (unwrap_or t q) (inside p q s t (nums ws) (nums zs) a low high h.common.stamped g.common.stamped)
        (under ws) (under zs) (under (ws ++ zs)) (λ y. those_both (λ k. kid_at y (kids_of k)) ws zs) (λ y. all_those (λ n. n < m) _ ws low) (λ y. all_those (λ n. m ≤ n) _ zs high) (λ y. alike_under y ws zs alike)
        ks js (nodes_join ks) (subst (λ z. RowStands ks (under ws) (EachStands ks (under ws) z)) (sym set) h.row) (subst (λ z. RowStands js (under zs) (EachStands js (under zs) z)) (sym their) g.row) in
        let new = joined_row (unwrap_or s p) (unwrap_or t q) ks (nodes_list js) in
        let numbers : members (unwrap_or s p) ++ members (unwrap_or t q) ≡ nums (ws ++ zs) = (λ i. set i ++ their i) ∙ sym (nums_both ws zs) in
        record {
          common = common_both l x s t p q ws zs a low high e h.common g.common;
          inners = all_append (λ w. IsInner w.1) ws zs h.inners g.inners;
          row = subst (λ z. RowStands new (under (ws ++ zs)) (EachStands new (under (ws ++ zs)) z)) numbers row;
        }
    node_joins (inner_node l s ks) p q (leaf_node x t ys) ws zs a low high e alike h g = absurd (two_kinds ws zs h.common.some g.common.some alike h.inners g.leaves)
    node_joins (leaf_node l s xs) p q (inner_node x t js) ws zs a low high e alike h g = absurd (kinds_two ws zs h.common.some g.common.some alike h.leaves g.inners)
    node_joins (leaf_node l s xs) p q (leaf_node x t ys) ws zs a low high e alike h g =
        let set : members (unwrap_or s p) ≡ nums ws = eff-members s p ∙ h.common.stamped.effective in
        let their : members (unwrap_or t q) ≡ nums zs = eff-members t q ∙ g.common.stamped.effective in
        let in_node = inside p q s t (nums ws) (nums zs) a low high h.common.stamped g.common.stamped in
        record {
          common = common_both l x s t p q ws zs a low high e h.common g.common;
          leaves = all_append (λ w. IsLeaf w.1) ws zs h.leaves g.leaves;
          different = bodies_differ m from (unwrap_or s p) (unwrap_or t q) in_node.left in_node.right ws zs set their low high xs ys h.alts g.alts h.covered g.covered h.different g.different;
          in_order = firsts_ascend m from (unwrap_or s p) (unwrap_or t q) in_node.left in_node.right ws zs set their low high xs ys h.alts g.alts h.covered g.covered h.in_order g.in_order;
          alts = alts_join m from (unwrap_or s p) (unwrap_or t q) in_node.left in_node.right ws zs set their low high xs ys h.alts g.alts h.covered g.covered;
          covered = bodies_covered m from (unwrap_or s p) (unwrap_or t q) in_node.left in_node.right ws zs set their low high xs ys h.alts g.alts h.covered g.covered;
        }

    pub nodes_join : (ks : PlainNodes) (k : PlainNode) → Has k (nodes_list ks) → Joins m k
    nodes_join no_nodes k i = absurd i
    nodes_join (node j ks) k i = elim i [ inl e ↦ subst (Joins m) e (node_joins j) | inr n ↦ nodes_join ks k n ]
