-- The rows of a spelled archive, as they are written.
use Rattle.std.proofs.Common.{◌≡◌, ◌≢◌, ℕ, zero, suc, ◌+◌, ◌<◌, ◌≤◌, List, [], ◌∷◌, ◌++◌, length, map, take, drop, get_or, None, refl, sym, ap, subst, ◌∙◌, append-nil, append_assoc, arith}
use Rattle.std.specs.List.{AllByRecursion}
use Rattle.std.proofs.lemmas.List.{take-append-drop, take_all, take_more}
use Rattle.keyed_tree.specs.Data.{PlainLabel}
use Rattle.archive_tree.specs.Data.{PlainAlt, PlainNode, PlainNodes, Stamp, inner_node, leaf_node}
use Rattle.record_parts.specs.Bounds.{IsStamp}
use Rattle.record_parts.specs.Shapes.{IsShapedLabel}
use Rattle.record_format.specs.Nodes.{set_in}
use Rattle.record_format.specs.Shapes.{AreShapedNodes, IsShapedAlt, IsShapedNode}
use Rattle.record_writer.specs.Calls.{after, after_all}
use Rattle.record_writer.specs.Data.{PlainWriter, WriterCall, call_end_inner, call_end_leaf, call_inner, call_leaf}
use Rattle.record_writer.specs.Walks.{alt_calls, node_calls, row_calls}
use Rattle.record_writer.proofs.WalkLaws.{row-closes}
use Rattle.spelled_archive.specs.View.{alt_view, node_view, nodes_view}
use Rattle.spelled_archive.specs.declared.node.Alt.{Alt}
use Rattle.spelled_archive.specs.declared.node.SNode.{SNode}

-- ---- calls for each of some things, one after the other

module _ {X : Type 0} (calls : List X → List WriterCall) (both : (xs ys : List X) → calls (xs ++ ys) ≡ calls xs ++ calls ys) (k : ℕ) (xs : List X) where
  module _ (x : X) (here : k < length xs) (is : x ≡ get_or xs k x) where
    pub one-more : calls (take (k + 1) xs) ≡ calls (take k xs) ++ calls (x ∷ [])
    one-more = ap calls (take_more xs k x here) ∙ both (take k xs) (get_or xs k x ∷ []) ∙ ap (λ y. calls (take k xs) ++ calls (y ∷ [])) (sym is)

    pub and-others : calls xs ≡ (calls (take k xs) ++ calls (x ∷ [])) ++ calls (drop (k + 1) xs)
    and-others =
        ap calls (sym (take-append-drop (k + 1) xs)) ∙ both (take (k + 1) xs) (drop (k + 1) xs) ∙ ap (λ cs. cs ++ calls (drop (k + 1) xs)) one-more

  pub all-made : length xs ≤ k → calls (take k xs) ≡ calls xs
  all-made done = ap calls (take_all k xs done)

-- ---- alternatives

abbrev pub calls_of_alts : List Alt → List WriterCall
calls_of_alts xs = alt_calls (map alt_view xs)

pub both-alts : (xs ys : List Alt) → calls_of_alts (xs ++ ys) ≡ calls_of_alts xs ++ calls_of_alts ys
both-alts [] ys = refl
both-alts (x ∷ xs) ys = ap (λ cs. alt_calls (alt_view x ∷ []) ++ cs) (both-alts xs ys)

pub each-at : {X Y : Type 0} (P : Y → Type 0) (f : X → Y) (xs : List X) (k : ℕ) (x : X) → AllByRecursion P (map f xs) → k < length xs → x ≡ get_or xs k x → P (f x)
each-at P f [] k x all here is = absurd (omega (arith, here))
each-at P f (y ∷ ys) zero x all here is = subst (λ z. P (f z)) (sym is) all.0
each-at P f (y ∷ ys) (suc k) x all here is = each-at P f ys k x all.1 (omega (arith, here)) is

-- ---- nodes

abbrev pub calls_of_nodes : List (ℕ × ℕ) → List SNode → List WriterCall
calls_of_nodes set xs = row_calls set (nodes_view xs)

pub both-rows : (set : List (ℕ × ℕ)) (xs ys : List SNode) → calls_of_nodes set (xs ++ ys) ≡ calls_of_nodes set xs ++ calls_of_nodes set ys
both-rows set [] ys = refl
both-rows set (x ∷ xs) ys = ap (λ cs. node_calls set (node_view x) ++ cs) (both-rows set xs ys) ∙ sym (append_assoc (node_calls set (node_view x)) (calls_of_nodes set xs) (calls_of_nodes set ys))

-- the calls for one node are those of a row of it
pub one-node : (set : List (ℕ × ℕ)) (x : SNode) → calls_of_nodes set (x ∷ []) ≡ node_calls set (node_view x)
one-node set x = append-nil (node_calls set (node_view x))

pub shaped-at : (xs : List SNode) (k : ℕ) (x : SNode) → AreShapedNodes (nodes_view xs) → k < length xs → x ≡ get_or xs k x → IsShapedNode (node_view x)
shaped-at [] k x all here is = absurd (omega (arith, here))
shaped-at (y ∷ ys) zero x all here is = subst (λ z. IsShapedNode (node_view z)) (sym is) all.0
shaped-at (y ∷ ys) (suc k) x all here is = shaped-at ys k x all.1 (omega (arith, here)) is

-- ---- a node

module _ (n : PlainNode) (l : PlainLabel) (s : Stamp) (parent set : List (ℕ × ℕ)) (same : set ≡ set_in s parent) where
  pub inner-calls : (ks : PlainNodes) → n ≡ inner_node l s ks → node_calls parent n ≡ (call_inner l s set ∷ []) ++ (row_calls set ks ++ call_end_inner ∷ [])
  inner-calls ks is = ap (node_calls parent) is ∙ ap (λ q. call_inner l s q ∷ (row_calls q ks ++ call_end_inner ∷ [])) (sym same)

  pub leaf-calls : (xs : List PlainAlt) → n ≡ leaf_node l s xs → node_calls parent n ≡ (call_leaf l s set ∷ []) ++ (alt_calls xs ++ call_end_leaf ∷ [])
  leaf-calls xs is = ap (node_calls parent) is ∙ ap (λ q. call_leaf l s q ∷ (alt_calls xs ++ call_end_leaf ∷ [])) (sym same)

pub inner-shaped : (n : PlainNode) (l : PlainLabel) (s : Stamp) (ks : PlainNodes) → n ≡ inner_node l s ks → IsShapedNode n → IsShapedLabel l × IsStamp s × AreShapedNodes ks
inner-shaped n l s ks is shaped = subst IsShapedNode is shaped

pub leaf-shaped : (n : PlainNode) (l : PlainLabel) (s : Stamp) (xs : List PlainAlt) → n ≡ leaf_node l s xs → IsShapedNode n → IsShapedLabel l × IsStamp s × AllByRecursion IsShapedAlt xs
leaf-shaped n l s xs is shaped = subst IsShapedNode is shaped

-- ---- what stands begun

-- behind a row no leaf does, and the inner nodes do that did before
pub behind-row : (v w : PlainWriter) (set : List (ℕ × ℕ)) (ks : PlainNodes) → v.leaf ≡ None → w ≡ after_all v (row_calls set ks) → (w.leaf ≡ None) × (w.inners ≡ v.inners)
behind-row v w set ks none is =
    let closes = row-closes v set ks none in
    (ap (λ (x : PlainWriter). x.leaf) is ∙ closes.0, ap (λ (x : PlainWriter). x.inners) is ∙ closes.1)

module _ (v w z : PlainWriter) (l : PlainLabel) (s : Stamp) (set : List (ℕ × ℕ)) where
  pub inner-no_leaf : v.leaf ≡ None → w ≡ after v (call_inner l s set) → w.leaf ≡ None
  inner-no_leaf none is = ap (λ (x : PlainWriter). x.leaf) is ∙ none

  pub inner-begun : w ≡ after v (call_inner l s set) → z.inners ≡ w.inners → z.inners ≢ []
  inner-begun is same = λ none. (
      let inners : w.inners ≡ (after v (call_inner l s set)).inners = ap (λ (x : PlainWriter). x.inners) is in
      let wrong = sym inners ∙ sym same ∙ none in absurd cc)

  pub leaf-begun : w ≡ after v (call_leaf l s set) → w.leaf ≢ None
  leaf-begun is = λ none. (
      let begun : w.leaf ≡ (after v (call_leaf l s set)).leaf = ap (λ (x : PlainWriter). x.leaf) is in
      let wrong = sym begun ∙ none in absurd cc)
