-- A node with one more version stands for the list with that version.
use Rattle.std.proofs.Common.{◌≡◌, ◌≢◌, ℕ, ◌≤◌, List, [], ◌∷◌, ◌++◌, map, Some, None, IfSome, refl, ap, sym, subst, ◌∙◌, ◌⊎◌, inl, inr}
use Rattle.std.proofs.lemmas.List.{append-nil}
use Rattle.std.specs.Option.{unwrap_or}
use Rattle.std.specs.List.{AllByRecursion}
use Rattle.std.specs.declared.cmp.Ordering.TheVariants.{Less}
use Rattle.version_set.specs.Pairs.{IsCanonical}
use Rattle.version_set.specs.Members.{members}
use Rattle.keyed_tree.specs.Alike.{IsInner, IsLeaf}
use Rattle.keyed_tree.specs.Data.{PlainLabel, PlainKeyed, inner, leaf, label_of, kids_list, kids_of}
use Rattle.keyed_tree.specs.Kids.{ascend, are_ordered, IsOrdered, kid_at}
use Rattle.keyed_tree.specs.Laws.{label_cmp_total}
use Rattle.keyed_tree.specs.Lists.{Ascends, Has}
use Rattle.keyed_tree.specs.Order.{label_cmp}
use Rattle.jsonml_tree.proofs.Lists.{all_has, has_map, not_itself, not_both}
use Rattle.keyed_tree.proofs.Kids.{both, ascend-all, found_at, has_found}
use Rattle.keyed_tree.proofs.KidsKeep.{kid_ordered}
use Rattle.archive_tree.specs.Data.{Stamp, PlainNode, inner_node, leaf_node, PlainNodes, no_nodes, node, node_label, nodes_list}
use Rattle.archive_tree.specs.Stands.{Stamped, nums, under, labels, CommonStands, RowStands, StandsFor, EachStands}
use Rattle.nested_merge.specs.Merged.{grown, started, vanished, fresh, fresh_onto, below, above, turn, merged, merged_row}
use Rattle.archive_tree.proofs.Those.{onto, all_those}
use Rattle.nested_merge.proofs.Picked.{those-append, nums-append, all_append, no_items, some_push}
use Rattle.nested_merge.proofs.Stamps.{Below, grown_stamped, kept_stamped, started_stamped, eff-members, eff_canonical}
use Rattle.nested_merge.proofs.OneVersion.{fresh_label, fresh_stands, found_label}
use Rattle.nested_merge.proofs.Weave.{above_lookup, above_ascends, above_higher, below_lower, has_above, has_below, turn_label, merged_ascends, merged_old, merged_new}
use Rattle.nested_merge.proofs.Leaves.{alts_stand, firsts_ascend, bodies_differ, bodies_covered}

-- the tree has a leaf where the node has one, and an inner node where it has one
abbrev mutual
  pub Fits : PlainNode → PlainKeyed → Type 0
  Fits (inner_node l s ks) (inner m cs) = EachFits ks (kids_list cs)
  Fits (inner_node l s ks) (leaf m b) = ⊥
  Fits (leaf_node l s xs) (inner m cs) = ⊥
  Fits (leaf_node l s xs) (leaf m b) = Unit {0}

  pub EachFits : PlainNodes → List PlainKeyed → Type 0
  EachFits no_nodes cs = Unit {0}
  EachFits (node k ks) cs = IfSome (kid_at (node_label k) cs) (λ c. Fits k c) × EachFits ks cs

fits_above : (m : PlainLabel) (ks : PlainNodes) (cs : List PlainKeyed) → AllByRecursion (λ x. label_cmp m x ≡ Less) (labels ks) → EachFits ks cs → EachFits ks (above m cs)
fits_above m no_nodes cs a h = tt
fits_above m (node k ks) cs a h = (subst (λ o. IfSome o (λ c. Fits k c)) (sym (above_lookup m (node_label k) cs a.0)) h.0, fits_above m ks cs a.1 h.1)

abbrev pub Grow : PlainNode → Type 0
Grow a = (n : ℕ) (q : List (ℕ × ℕ)) (c : PlainKeyed) (ws : List (ℕ × PlainKeyed)) → 1 ≤ n → IsCanonical q → Below n (nums ws)
    → label_of c ≡ node_label a → IsOrdered c → Fits a c → StandsFor a ws (members q) → StandsFor (merged n q a c) (ws ++ (n, c) ∷ []) (members q ++ n ∷ [])

-- a node that the version does not have
gone : (a : PlainNode) (n : ℕ) (q : List (ℕ × ℕ)) (ws : List (ℕ × PlainKeyed)) → 1 ≤ n → IsCanonical q → Below n (nums ws) → StandsFor a ws (members q) → StandsFor (vanished q a) ws (members q ++ n ∷ [])
gone (inner_node l s ks) n q ws from c low h = record { common = record { some = h.common.some; labelled = h.common.labelled; stamped = kept_stamped n (nums ws) (members q) from low q s refl c h.common.stamped }; inners = h.inners; row = h.row }
gone (leaf_node l s xs) n q ws from c low h = record { common = record { some = h.common.some; labelled = h.common.labelled; stamped = kept_stamped n (nums ws) (members q) from low q s refl c h.common.stamped }; leaves = h.leaves; different = h.different; in_order = h.in_order; alts = h.alts; covered = h.covered }

module _ (n : ℕ) (q : List (ℕ × ℕ)) (from : 1 ≤ n) (canonical : IsCanonical q) (u u' : PlainLabel → List (ℕ × PlainKeyed)) (low : (l : PlainLabel) → Below n (nums (u l))) where
  abbrev Later : PlainNodes → Type 0
  Later ks = EachStands ks u' (members q ++ n ∷ [])

  fresh_stand : (bs : List PlainKeyed) (r : PlainNodes) → ((b : PlainKeyed) → Has b bs → IsOrdered b) → ((b : PlainKeyed) → Has b bs → u' (label_of b) ≡ (n, b) ∷ []) → Later r → Later (fresh_onto (started n q) bs r)
  fresh_stand [] r o e h = h
  fresh_stand (b ∷ bs) r o e h =
      let here = fresh_stands b (started n q) n (members q ++ n ∷ []) (o b (inl refl)) (started_stamped n q from canonical) in
      let list : u' (node_label (fresh (started n q) b)) ≡ (n, b) ∷ [] = ap u' (fresh_label (started n q) b) ∙ e b (inl refl) in
      (subst (λ z. StandsFor (fresh (started n q) b) z (members q ++ n ∷ [])) (sym list) here, fresh_stand bs r (λ c m. o c (inr m)) (λ c m. e c (inr m)) h)

  turn_stands : (k : PlainNode) (cs : List PlainKeyed) → Grow k → ((c : PlainKeyed) → Has c cs → IsOrdered c) → IfSome (kid_at (node_label k) cs) (λ c. Fits k c) → StandsFor k (u (node_label k)) (members q)
      → u' (node_label k) ≡ u (node_label k) ++ onto n (kid_at (node_label k) cs) []
      → StandsFor (turn (vanished q k) (λ c. merged n q k c) (kid_at (node_label k) cs)) (u' (node_label k)) (members q ++ n ∷ [])
  turn_stands k cs grow o f h e =
      elim (kid_at (node_label k) cs) as (λ o'. kid_at (node_label k) cs ≡ o' → IfSome o' (λ c. Fits k c) → u' (node_label k) ≡ u (node_label k) ++ onto n o' [] → StandsFor (turn (vanished q k) (λ c. merged n q k c) o') (u' (node_label k)) (members q ++ n ∷ [])) [
        | None ↦ λ d f e. subst (λ z. StandsFor (vanished q k) z (members q ++ n ∷ [])) (sym (e ∙ append-nil (u (node_label k)))) (gone k n q (u (node_label k)) from canonical (low (node_label k)) h)
        | Some c ↦ λ d f e. subst (λ z. StandsFor (merged n q k c) z (members q ++ n ∷ [])) (sym e) (grow n q c (u (node_label k)) from canonical (low (node_label k)) (has_found (node_label k) c cs d).1 (o c (has_found (node_label k) c cs d).0) f h)
      ] refl f e

  pub each_grows : (ks : PlainNodes) (cs : List PlainKeyed) → ((k : PlainNode) → Has k (nodes_list ks) → Grow k)
      → Ascends label_cmp (labels ks) → Ascends label_cmp (map label_of cs)
      → ((c : PlainKeyed) → Has c cs → IsOrdered c) → EachFits ks cs → EachStands ks u (members q)
      → ((l : PlainLabel) → Has l (labels ks) → u' l ≡ u l ++ onto n (kid_at l cs) [])
      → ((c : PlainKeyed) → Has c cs → ¬ (Has (label_of c) (labels ks)) → u' (label_of c) ≡ (n, c) ∷ [])
      → Later (merged_row n q ks cs)
  each_grows no_nodes cs grow a b o f h old new = fresh_stand cs no_nodes o (λ c m. new c m (λ x. x)) tt
  each_grows (node k ks) cs grow a b o f h old new =
      let m = node_label k in
      let here = turn_stands k cs (grow k (inl refl)) o f.0 h.0 (old m (inl refl)) in
      let placed = turn_label n q k (kid_at m cs) in
      let higher : (c : PlainKeyed) → Has c (above m cs) → ¬ (Has (label_of c) (labels ks)) → ¬ (Has (label_of c) (labels (node k ks))) =
      λ c i d j. elim j [
        | inl e ↦ not_itself label_cmp_total m (subst (λ x. label_cmp m x ≡ Less) (sym e) (all_has (λ x. label_cmp m x ≡ Less) (map label_of (above m cs)) (label_of c) (above_higher m cs b) (has_map label_of c (above m cs) i)))
        | inr x ↦ d x
      ] in
      let lower : (c : PlainKeyed) → Has c (below m cs) → ¬ (Has (label_of c) (labels (node k ks))) =
      λ c i j. (let less = all_has (λ x. label_cmp x m ≡ Less) (map label_of (below m cs)) (label_of c) (below_lower m cs) (has_map label_of c (below m cs) i) in elim j [
        | inl e ↦ not_itself label_cmp_total m (subst (λ x. label_cmp x m ≡ Less) (sym e) less)
        | inr x ↦ not_both label_cmp_total (label_of c) m less (all_has (λ x. label_cmp m x ≡ Less) (labels ks) (label_of c) a.0 x)
      ]) in
      let here' = subst (λ l. StandsFor (turn (vanished q k) (λ c. merged n q k c) (kid_at m cs)) (u' l) (members q ++ n ∷ [])) (sym placed) here in
      let rest = each_grows ks (above m cs) (λ j i. grow j (inr i)) a.1 (above_ascends m cs b)
      (λ c i. o c (has_above m c cs i)) (fits_above m ks cs a.0 f.1) h.1
      (λ l i. old l (inr i) ∙ ap (λ z. u l ++ onto n z []) (sym (above_lookup m l cs (all_has (λ x. label_cmp m x ≡ Less) (labels ks) l a.0 i))))
      (λ c i d. new c (has_above m c cs i) (higher c i d)) in
      fresh_stand (below m cs) _ (λ c i. o c (has_below m c cs i)) (λ c i. new c (has_below m c cs i) (lower c i)) (here', rest)

all_push : {K : Type 0} (P : K → Type 0) (xs : List K) (x : K) → AllByRecursion P xs → P x → AllByRecursion P (xs ++ x ∷ [])
all_push P xs x h g = all_append P xs (x ∷ []) h (g, tt)

common_grows : (l : PlainLabel) (s : Stamp) (n : ℕ) (q : List (ℕ × ℕ)) (c : PlainKeyed) (ws : List (ℕ × PlainKeyed)) → 1 ≤ n → Below n (nums ws) → label_of c ≡ l → CommonStands l s ws (members q) → CommonStands l (grown n s) (ws ++ (n, c) ∷ []) (members q ++ n ∷ [])
common_grows l s n q c ws from low e h = record {
  some = some_push ws (n, c);
  labelled = all_push (λ w. label_of w.1 ≡ l) ws (n, c) h.labelled e;
  stamped = subst (λ z. Stamped (grown n s) z (members q ++ n ∷ [])) (sym (nums-append ws n c)) (grown_stamped n (nums ws) (members q) from low s h.stamped);
}

-- a row of kids, whose labels lead to the lists u before, and u' with the kids cs of version n
module _ (n : ℕ) (q : List (ℕ × ℕ)) (from : 1 ≤ n) (canonical : IsCanonical q) (u u' : PlainLabel → List (ℕ × PlainKeyed)) (low : (l : PlainLabel) → Below n (nums (u l)))
    (cs : List PlainKeyed) (more : (l : PlainLabel) → u' l ≡ u l ++ onto n (kid_at l cs) []) where
  pub row_grows : (ks : PlainNodes) → ((k : PlainNode) → Has k (nodes_list ks) → Grow k) → Ascends label_cmp (map label_of cs) → ((c : PlainKeyed) → Has c cs → IsOrdered c) → EachFits ks cs
      → RowStands ks u (EachStands ks u (members q)) → RowStands (merged_row n q ks cs) u' (EachStands (merged_row n q ks cs) u' (members q ++ n ∷ []))
  row_grows ks grow b o f h = record {
    ascending = merged_ascends n q ks cs h.ascending b;
    kids = each_grows n q from canonical u u' low ks cs grow h.ascending b o f h.kids (λ l i. more l) (λ c i d. more (label_of c) ∙ (λ t. no_items (u (label_of c)) (λ e. d (h.covered (label_of c) e)) t ++ onto n (found_at c cs b i t) []));
    covered = λ l e. elim (split (u l) (onto n (kid_at l cs) []) (λ d. e (more l ∙ d))) [
      | inl x ↦ merged_old n q l ks cs (h.covered l x)
      | inr y ↦ merged_new n q l ks cs b (found_label l cs n y)
    ];
  }
    where
      split : (xs ys : List (ℕ × PlainKeyed)) → xs ++ ys ≢ [] → (xs ≢ []) ⊎ (ys ≢ [])
      split [] ys g = inr g
      split (x ∷ xs) ys g = inl (λ d. cc)

some_nums : (ws : List (ℕ × PlainKeyed)) → ws ≢ [] → nums ws ≢ []
some_nums [] h e = h refl
some_nums (w ∷ ws) h e = cc

mutual
  pub node_grows : (a : PlainNode) → Grow a
  node_grows (inner_node l s ks) n q (inner m cs) ws from canonical low e o f h =
      let two = both (ascend cs) (are_ordered cs) o in
      let set : members (unwrap_or s q) ≡ nums ws = eff-members s q ∙ h.common.stamped.effective in
      let row = row_grows n (unwrap_or s q) from (eff_canonical s q (nums ws) (members q) h.common.stamped canonical) (under ws) (under (ws ++ (n, inner m cs) ∷ [])) (λ x. all_those _ _ ws low)
      (kids_list cs) (λ x. those-append (λ k. kid_at x (kids_of k)) ws n (inner m cs))
      ks (nodes_grow ks) (ascend-all cs two.0) (λ c i. kid_ordered (inner m cs) c o i) f (subst (λ z. RowStands ks (under ws) (EachStands ks (under ws) z)) (sym set) h.row) in
      let numbers : members (unwrap_or s q) ++ n ∷ [] ≡ nums (ws ++ (n, inner m cs) ∷ []) = ap (λ z. z ++ n ∷ []) set ∙ sym (nums-append ws n (inner m cs)) in
      let new = merged_row n (unwrap_or s q) ks (kids_list cs) in
      record {
        common = common_grows l s n q (inner m cs) ws from low e h.common;
        inners = all_push (λ w. IsInner w.1) ws (n, inner m cs) h.inners tt;
        row = subst (λ z. RowStands new (under (ws ++ (n, inner m cs) ∷ [])) (EachStands new (under (ws ++ (n, inner m cs) ∷ [])) z)) numbers row;
      }
  node_grows (inner_node l s ks) n q (leaf m b) ws from canonical low e o f h = absurd f
  node_grows (leaf_node l s xs) n q (inner m cs) ws from canonical low e o f h = absurd f
  node_grows (leaf_node l s xs) n q (leaf m b) ws from canonical low e o f h =
      let set : members (unwrap_or s q) ≡ nums ws = eff-members s q ∙ h.common.stamped.effective in
      let right = eff_canonical s q (nums ws) (members q) h.common.stamped canonical in
      record {
        common = common_grows l s n q (leaf m b) ws from low e h.common;
        leaves = all_push (λ w. IsLeaf w.1) ws (n, leaf m b) h.leaves tt;
        different = bodies_differ n (unwrap_or s q) m b ws from set right low xs h.different;
        in_order = firsts_ascend n (unwrap_or s q) m b ws from set right low xs h.alts h.in_order;
        alts = alts_stand n (unwrap_or s q) m b ws from set right low xs (some_nums ws h.common.some) h.alts h.covered;
        covered = bodies_covered n (unwrap_or s q) m b ws from set right low xs h.covered;
      }

  pub nodes_grow : (ks : PlainNodes) (k : PlainNode) → Has k (nodes_list ks) → Grow k
  nodes_grow no_nodes k m = absurd m
  nodes_grow (node j ks) k m = elim m [ inl e ↦ subst Grow e (node_grows j) | inr i ↦ nodes_grow ks k i ]
