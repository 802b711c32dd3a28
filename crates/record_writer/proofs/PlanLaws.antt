-- Timestamp trees, planned by the places of their sets.
use Rattle.std.proofs.Common.{◌≡◌, ℕ, zero, suc, ◌+◌, ◌<◌, ◌≤◌, List, [], ◌∷◌, ◌++◌, map, take, drop, length, refl, sym, ap, subst, ◌∙◌, append_assoc, append-nil, arith}
use Rattle.std.specs.Int.{div_ceil}
use Rattle.std.proofs.lemmas.List.{length-append}
use Rattle.version_set.specs.Pairs.{IsCanonical}
use Rattle.version_set.specs.Members.{united}
use Rattle.version_set.specs.View.{pairs_of}
use Rattle.version_set.specs.declared.set.VersionSet.{VersionSet}
use Rattle.timestamp_tree.specs.Data.{PlainTs, leaf, top}
use Rattle.timestamp_tree.specs.Bytes.{stored, tree_bytes}
use Rattle.timestamp_tree.specs.Tree.{joined, tree_of}
use Rattle.timestamp_tree.proofs.Trees.{length-node, length-stored}
use Rattle.timestamp_tree.proofs.Reversed.{united_same, tree_of_slice}
use Rattle.record_writer.specs.Places.{set_at, above}
use Rattle.record_writer.specs.Plans.{node_bytes, spelled, above_nodes, IsMore, United, Joined, Planned}
use Rattle.record_writer.specs.declared.plan.Plan.{Plan}
use Rattle.record_writer.specs.declared.plan.TreeNode.{TreeNode}
use Rattle.record_writer.proofs.PlaceLaws.{set_at-grown, set_at-behind, sets-grown}

-- ---- sets that are added

pub none-more : (xs : List VersionSet) → IsMore xs xs
none-more xs = ([], sym (append-nil xs))

pub more-then : (xs ys zs : List VersionSet) → IsMore xs ys → IsMore ys zs → IsMore xs zs
more-then xs ys zs a b = (a.0 ++ b.0, b.1 ∙ ap (λ (vs : List VersionSet). vs ++ b.0) a.1 ∙ append_assoc xs a.0 b.0)

pub set-more : (xs ys : List VersionSet) (n : ℕ) → IsMore xs ys → n < length xs → set_at ys n ≡ set_at xs n
set-more xs ys n m h = ap (λ (vs : List VersionSet). set_at vs n) m.1 ∙ set_at-grown xs m.0 n h

-- ---- the union of a set and itself

set_at-canonical : (xs : List VersionSet) (n : ℕ) → IsCanonical (set_at xs n)
set_at-canonical [] n = tt
set_at-canonical (x ∷ xs) zero = x.canonical
set_at-canonical (x ∷ xs) (suc n) = set_at-canonical xs n

-- one of them, where both are the same
pub same-united : (xs : List VersionSet) (one two : ℕ) → one < length xs → set_at xs one ≡ set_at xs two → United xs xs one two one
same-united xs one two h e = record {
  more = none-more xs;
  known = h;
  set = united_same (set_at xs one) (set_at-canonical xs one) ∙ ap (λ s. united (set_at xs one) s) e;
}

-- it stands at a place
pub one-united : (xs ys zs : List VersionSet) (one two at : ℕ) (both : VersionSet) → pairs_of both ≡ united (set_at ys one) (set_at ys two) → ys ≡ xs → set_at zs at ≡ pairs_of both → zs ≡ xs → at < length xs → United xs xs one two at
one-united xs ys zs one two at both u e is g h = record {
  more = none-more xs;
  known = h;
  set = ap (λ (vs : List VersionSet). set_at vs at) (sym g) ∙ is ∙ u ∙ (λ i. united (set_at (e i) one) (set_at (e i) two));
}

-- it is added
pub new-united : (xs ys zs : List VersionSet) (one two at : ℕ) (both : VersionSet) → pairs_of both ≡ united (set_at ys one) (set_at ys two) → ys ≡ xs → zs ≡ xs ++ both ∷ [] → at ≡ length xs → United xs zs one two at
new-united xs ys zs one two at both u e g h = record {
  more = (both ∷ [], g);
  known = (let longer = ap length g ∙ length-append xs (both ∷ []) in omega (arith, longer, h));
  set = (λ i. set_at (g i) (h i)) ∙ set_at-behind xs both ∙ u ∙ (λ i. united (set_at (e i) one) (set_at (e i) two));
}

-- ---- nodes

pub spelled-behind : (xs : List VersionSet) (ns : List TreeNode) (n : TreeNode) → spelled xs (ns ++ n ∷ []) ≡ node_bytes xs n ++ spelled xs ns
spelled-behind xs [] n = sym (append-nil (node_bytes xs n))
spelled-behind xs (m ∷ ns) n = ap (λ bs. bs ++ node_bytes xs m) (spelled-behind xs ns n) ∙ append_assoc (node_bytes xs n) (spelled xs ns) (node_bytes xs m)

pub spelled-more : (xs ys : List VersionSet) (ns : List TreeNode) → IsMore xs ys → above_nodes ns ≤ length xs → spelled ys ns ≡ spelled xs ns
spelled-more xs ys [] m h = refl
spelled-more xs ys (n ∷ ns) m h =
    let others = spelled-more xs ys ns m (omega arith) in
    let one = set-more xs ys n.set m (omega arith) in
    λ i. others i ++ stored (one i) n.left

pub nodes-behind : (ns : List TreeNode) (n : TreeNode) (k : ℕ) → above_nodes ns ≤ k → n.set < k → above_nodes (ns ++ n ∷ []) ≤ k
nodes-behind [] n k h g = omega arith
nodes-behind (m ∷ ns) n k h g = (let others = nodes-behind ns n k (omega arith) g in omega arith)

pub nodes-front : (ns : List TreeNode) (n : TreeNode) (k : ℕ) → above_nodes (ns ++ n ∷ []) ≤ k → (above_nodes ns ≤ k) × (n.set < k)
nodes-front [] n k h = (omega arith, omega arith)
nodes-front (m ∷ ns) n k h = (let others = nodes-front ns n k (omega arith) in (omega (arith, others.0), others.1))

-- ---- trees

pub leaf-planned : (xs : List VersionSet) (before after : List TreeNode) (place : ℕ) (n : TreeNode) (plan : Plan) → place < length xs → above_nodes before ≤ length xs
    → n.set ≡ place → n.left ≡ 0 → after ≡ before ++ n ∷ [] → plan.set ≡ place → plan.size ≡ length (stored (set_at xs place) 0) → Planned xs xs before after (leaf (set_at xs place)) plan
leaf-planned xs before after place n plan h g set left is at size = record {
  more = none-more xs;
  known = subst (λ (ns : List TreeNode). above_nodes ns ≤ length xs) (sym is) (nodes-behind before n (length xs) g (subst (λ (k : ℕ). k < length xs) (sym set) h));
  at = subst (λ (k : ℕ). k < length xs) (sym at) h;
  set = ap (set_at xs) at;
  size = size;
  nodes = ap (spelled xs) is ∙ spelled-behind xs before n ∙ (λ i. stored (set_at xs (set i)) (left i) ++ spelled xs before);
}

pub inner-joined : (xs ys : List VersionSet) (before after : List TreeNode) (left right plan : Plan) (n : TreeNode) → United xs ys left.set right.set n.set → above_nodes before ≤ length xs
    → length xs ≤ length ys → n.left ≡ left.size → after ≡ before ++ n ∷ [] → plan.set ≡ n.set → plan.size ≡ length (stored (set_at ys n.set) left.size) + (left.size + right.size) → Joined xs ys before after left right plan
inner-joined xs ys before after left right plan n u g le size is at whole = record {
  more = u.more;
  known = subst (λ (ns : List TreeNode). above_nodes ns ≤ length ys) (sym is) (nodes-behind before n (length ys) (omega (arith, g, le)) u.known);
  at = subst (λ (k : ℕ). k < length ys) (sym at) u.known;
  set = ap (set_at ys) at ∙ u.set;
  size = whole ∙ ap (λ (k : ℕ). length (stored (set_at ys k) left.size) + (left.size + right.size)) (sym at);
  nodes = ap (spelled ys) is ∙ spelled-behind ys before n ∙ (λ i. stored (set_at ys (sym at i)) (size i) ++ spelled-more xs ys before u.more g i);
}

pub joined-planned : (ws xs ys zs : List VersionSet) (ks ls ms ns : List TreeNode) (l r : PlainTs) (left right plan : Plan) → Planned ws xs ks ls r right → Planned xs ys ls ms l left → Joined ys zs ms ns left right plan → Planned ws zs ks ns (joined l r) plan
joined-planned ws xs ys zs ks ls ms ns l r left right plan a b j =
    let u = united (top l) (top r) in
    let a_set : set_at ys right.set ≡ top r = set-more xs ys right.set b.more a.at ∙ a.set in
    let set : set_at zs plan.set ≡ u = j.set ∙ (λ i. united (b.set i) (a_set i)) in
    let head : stored (set_at zs plan.set) left.size ≡ stored u (length (tree_bytes l)) = (λ i. stored (set i) (b.size i)) in
    let h = ap length head in
    record {
      more = more-then ws xs zs a.more (more-then xs ys zs b.more j.more);
      known = j.known;
      at = j.at;
      set = set;
      size = omega (arith, j.size, h, a.size, b.size, length-node u (length (tree_bytes l)) l r, length-stored u (length (tree_bytes l)));
      nodes = j.nodes ∙ (λ i. head i ++ b.nodes i) ∙ ap (λ bs. stored u (length (tree_bytes l)) ++ (tree_bytes l ++ bs)) a.nodes
          ∙ ap (λ bs. stored u (length (tree_bytes l)) ++ bs) (sym (append_assoc (tree_bytes l) (tree_bytes r) (spelled ws ks)))
          ∙ sym (append_assoc (stored u (length (tree_bytes l))) (tree_bytes l ++ tree_bytes r) (spelled ws ks));
    }

-- ---- places

pub above-take : (ps : List ℕ) (k n : ℕ) → above ps ≤ n → above (take k ps) ≤ n
above-take [] zero n h = omega arith
above-take [] (suc k) n h = omega arith
above-take (p ∷ ps) zero n h = omega arith
above-take (p ∷ ps) (suc k) n h = (let others = above-take ps k n (omega arith) in omega arith)

pub above-drop : (ps : List ℕ) (k n : ℕ) → above ps ≤ n → above (drop k ps) ≤ n
above-drop [] zero n h = omega arith
above-drop [] (suc k) n h = omega arith
above-drop (p ∷ ps) zero n h = h
above-drop (p ∷ ps) (suc k) n h = above-drop ps k n (omega arith)

-- the tree over the sets at places, of which the halves were planned
pub tree-planned : (ws xs ys zs : List VersionSet) (ks ls ms ns : List TreeNode) (ps front back : List ℕ) (k : ℕ) (left right plan : Plan) → 1 < length ps → k ≡ div_ceil (length ps) 2 → front ≡ take k ps → back ≡ drop k ps → above ps ≤ length ws
    → Planned ws xs ks ls (tree_of (map (set_at ws) back)) right → Planned xs ys ls ms (tree_of (map (set_at xs) front)) left → Joined ys zs ms ns left right plan → Planned ws zs ks ns (tree_of (map (set_at ws) ps)) plan
tree-planned ws xs ys zs ks ls ms ns ps front back k left right plan many half e g h a b j =
    let few : above front ≤ length ws = subst (λ (qs : List ℕ). above qs ≤ length ws) (sym e) (above-take ps k (length ws) h) in
    let same : map (set_at xs) front ≡ map (set_at ws) front = ap (λ (vs : List VersionSet). map (set_at vs) front) a.more.1 ∙ sets-grown ws a.more.0 front few in
    let c = subst (λ (ss : List (List (ℕ × ℕ))). Planned xs ys ls ms (tree_of ss) left) same b in
    let halves = tree_of_slice (set_at ws) ps front back k many half e g in
    subst (λ (t : PlainTs). Planned ws zs ks ns t plan) (sym halves) (joined-planned ws xs ys zs ks ls ms ns (tree_of (map (set_at ws) front)) (tree_of (map (set_at ws) back)) left right plan a c j)

-- ---- nodes that are written

pub node-written : (p q o : List ℕ) (xs : List VersionSet) (ns ms : List TreeNode) (n : TreeNode) → ns ≡ ms ++ n ∷ [] → q ≡ p ++ node_bytes xs n → p ++ spelled xs ns ≡ o → q ++ spelled xs ms ≡ o
node-written p q o xs ns ms n e g h =
    ap (λ bs. bs ++ spelled xs ms) g ∙ append_assoc p (node_bytes xs n) (spelled xs ms)
    ∙ ap (λ bs. p ++ bs) (sym (ap (spelled xs) e ∙ spelled-behind xs ms n)) ∙ h
