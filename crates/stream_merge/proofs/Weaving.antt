-- The calls of a walk along a row of the archive and the kids of a version, and what is known of the kids that are left.
use Rattle.std.proofs.Common.{◌≡◌, ℕ, Bool, true, false, cond, IsTrue, true≢false, List, [], ◌∷◌, ◌++◌, Option, Some, None, IfSome, refl, sym, ap, subst, ◌∙◌, append_assoc}
use Rattle.std.specs.Option.{is_some, unwrap_or}
use Rattle.std.specs.Ordering.{is_eq, is_le}
use Rattle.std.proofs.lemmas.Bool.{and_from}
use Rattle.std.proofs.lemmas.List.{append-nil}
use Rattle.keyed_tree.specs.Data.{PlainLabel, PlainKeyed, inner, leaf, kids_from, label_of}
use Rattle.keyed_tree.specs.Kids.{ascend, are_ordered, is_ordered, IsOrdered, kid_at}
use Rattle.keyed_tree.specs.Order.{label_cmp}
use Rattle.keyed_tree.proofs.Kids.{both, has_found, found_at, labels_ascend}
use Rattle.archive_tree.specs.Data.{Stamp, PlainAlt, PlainNode, inner_node, leaf_node, PlainNodes, no_nodes, node, node_label}
use Rattle.nested_merge.specs.Fits.{if_there, fits, all_fit}
use Rattle.nested_merge.specs.Merged.{started, vanished, fresh, fresh_row, fresh_onto, below, above, merged, merged_row, turn}
use Rattle.nested_merge.proofs.Rows.{ordered_tail}
use Rattle.nested_merge.proofs.Weave.{has_above}
use Rattle.record_format.specs.Nodes.{set_in}
use Rattle.record_format.specs.Shapes.{IsShapedNode, AreShapedNodes}
use Rattle.record_writer.specs.Data.{WriterCall, call_inner, call_leaf, call_end_inner, call_end_leaf}
use Rattle.record_writer.specs.Walks.{alt_calls, node_calls, row_calls}
use Rattle.stream_merge.specs.Meets.{turned, kids_with, alts_with, met, rest_of, stamp_beside, inherited_beside, calls_beside}
use Rattle.stream_merge.specs.View.{PlainInherited}
use Rattle.stream_merge.specs.declared.begin.Kind.TheVariants.{Inner, Leaf}

-- ---- calls

pub row_onto : (set : List (ℕ × ℕ)) (s : Stamp) (cs : List PlainKeyed) (r : PlainNodes) → row_calls set (fresh_onto s cs r) ≡ row_calls set (fresh_onto s cs no_nodes) ++ row_calls set r
row_onto set s [] r = refl
row_onto set s (c ∷ cs) r =
    ap (λ (z : List WriterCall). node_calls set (fresh s c) ++ z) (row_onto set s cs r)
    ∙ sym (append_assoc (node_calls set (fresh s c)) (row_calls set (fresh_onto s cs no_nodes)) (row_calls set r))

-- the node and the kids before it, and then the rest of the row
pub row_step : (n : ℕ) (q set : List (ℕ × ℕ)) (k : PlainNode) (ks : PlainNodes) (cs : List PlainKeyed)
    → row_calls set (merged_row n q (node k ks) cs) ≡ row_calls set (met n q k cs) ++ row_calls set (merged_row n q ks (above (node_label k) cs))
row_step n q set k ks cs =
    let low = below (node_label k) cs in
    let here = turn (vanished q k) (λ c. merged n q k c) (kid_at (node_label k) cs) in
    let rest = merged_row n q ks (above (node_label k) cs) in
    let first = row_calls set (rest_of n q low) in
    row_onto set (started n q) low (node here rest)
    ∙ sym (append_assoc first (node_calls set here) (row_calls set rest))
    ∙ ap (λ (z : List WriterCall). z ++ row_calls set rest) (ap (λ (z : List WriterCall). first ++ z) (sym (append-nil (node_calls set here))) ∙ sym (row_onto set (started n q) low (node here no_nodes)))

-- some calls, one that opens, and what is inside
opened : (first : List WriterCall) (c : WriterCall) (rest : List WriterCall) → first ++ ((c ∷ rest) ++ []) ≡ (first ++ c ∷ []) ++ rest
opened first c rest = ap (λ (z : List WriterCall). first ++ z) (append-nil (c ∷ rest)) ∙ sym (append_assoc first (c ∷ []) rest)

module _ (h : PlainInherited) (l : PlainLabel) (s : Stamp) (cs : List PlainKeyed) where
  abbrev own : PlainInherited
  own = inherited_beside h l s cs

  inner_here : (ks : PlainNodes) (o : Option PlainKeyed) → IsTrue (if_there o (λ c. fits (inner_node l s ks) c))
      → turn (vanished h.before (inner_node l s ks)) (λ c. merged h.number h.before (inner_node l s ks) c) o
      ≡ inner_node l (turned h.number h.before (is_some o) s) (kids_with h.number (unwrap_or s h.before) ks o)
  inner_here ks None f = refl
  inner_here ks (Some (inner m js)) f = refl
  inner_here ks (Some (leaf m b)) f = absurd (true≢false (sym f))

  leaf_here : (xs : List PlainAlt) (o : Option PlainKeyed) → IsTrue (if_there o (λ c. fits (leaf_node l s xs) c))
      → turn (vanished h.before (leaf_node l s xs)) (λ c. merged h.number h.before (leaf_node l s xs) c) o
      ≡ leaf_node l (turned h.number h.before (is_some o) s) (alts_with h.number (unwrap_or s h.before) xs o)
  leaf_here xs None f = refl
  leaf_here xs (Some (inner m js)) f = absurd (true≢false (sym f))
  leaf_here xs (Some (leaf m b)) f = refl

  pub inner_met : (ks : PlainNodes) → IsTrue (if_there (kid_at l cs) (λ c. fits (inner_node l s ks) c))
      → row_calls h.now (met h.number h.before (inner_node l s ks) cs)
      ≡ calls_beside Inner h l s cs ++ (row_calls own.now (kids_with h.number own.before ks (kid_at l cs)) ++ call_end_inner ∷ [])
  inner_met ks f =
      let t = stamp_beside h l s cs in
      let first = row_calls h.now (rest_of h.number h.before (below l cs)) in
      row_onto h.now (started h.number h.before) (below l cs) (node (turn (vanished h.before (inner_node l s ks)) (λ c. merged h.number h.before (inner_node l s ks) c) (kid_at l cs)) no_nodes)
      ∙ ap (λ (z : PlainNode). first ++ (node_calls h.now z ++ [])) (inner_here ks (kid_at l cs) f)
      ∙ opened first (call_inner l t (set_in t h.now)) (row_calls own.now (kids_with h.number own.before ks (kid_at l cs)) ++ call_end_inner ∷ [])

  pub leaf_met : (xs : List PlainAlt) → IsTrue (if_there (kid_at l cs) (λ c. fits (leaf_node l s xs) c))
      → row_calls h.now (met h.number h.before (leaf_node l s xs) cs)
      ≡ calls_beside Leaf h l s cs ++ (alt_calls (alts_with h.number own.before xs (kid_at l cs)) ++ call_end_leaf ∷ [])
  leaf_met xs f =
      let t = stamp_beside h l s cs in
      let first = row_calls h.now (rest_of h.number h.before (below l cs)) in
      row_onto h.now (started h.number h.before) (below l cs) (node (turn (vanished h.before (leaf_node l s xs)) (λ c. merged h.number h.before (leaf_node l s xs) c) (kid_at l cs)) no_nodes)
      ∙ ap (λ (z : PlainNode). first ++ (node_calls h.now z ++ [])) (leaf_here xs (kid_at l cs) f)
      ∙ opened first (call_leaf l t (set_in t h.now)) (alt_calls (alts_with h.number own.before xs (kid_at l cs)) ++ call_end_leaf ∷ [])

  -- a node that the version does not have keeps its set
  pub own_alone : kid_at l cs ≡ None → own.now ≡ own.before
  own_alone e = rw e refl

-- ---- facts of the kids that are left

-- what holds behind the first kid wherever it holds of all, holds above a label
pub above_keeps : (P : List PlainKeyed → Type 0) → ((c : PlainKeyed) (cs : List PlainKeyed) → P (c ∷ cs) → P cs) → (l : PlainLabel) (cs : List PlainKeyed) → P cs → P (above l cs)
above_keeps P behind l [] h = h
above_keeps P behind l (c ∷ cs) h = elim (is_le (label_cmp (label_of c) l)) as (λ b. P (cond b (above l cs) (c ∷ cs))) [
  | true ↦ above_keeps P behind l cs (behind c cs h)
  | false ↦ h
]

-- each kid, alone, is within the bounds of the format
abbrev pub AreShapedKids : List PlainKeyed → Type 0
AreShapedKids cs = AreShapedNodes (fresh_row (kids_from cs))

-- ---- the kid with a label

pub kid_known : (l : PlainLabel) (cs : List PlainKeyed) → IsTrue (are_ordered (kids_from cs)) → AreShapedKids cs → IfSome (kid_at l cs) (λ k. IsOrdered k × IsShapedNode (fresh None k))
kid_known l [] h g = tt
kid_known l (c ∷ cs) h g =
    let rest = kid_known l cs (ordered_tail c cs h) g.1 in
    let here : IsOrdered c = (both (is_ordered c) (are_ordered (kids_from cs)) h).0 in
    let shaped : IsShapedNode (fresh None c) = g.0 in
    elim (is_eq (label_cmp (label_of c) l)) as (λ b. is_eq (label_cmp (label_of c) l) ≡ b → IfSome (kid_at l (c ∷ cs)) (λ k. IsOrdered k × IsShapedNode (fresh None k))) [
      | true ↦ λ e. rw e (here, shaped)
      | false ↦ λ e. rw e rest
    ] refl

same_kid : (m l : PlainLabel) (cs : List PlainKeyed) (c : PlainKeyed) → IsTrue (ascend (kids_from cs)) → kid_at l (above m cs) ≡ Some c → kid_at l cs ≡ Some c
same_kid m l cs c h e =
    let found = has_found l c (above m cs) e in
    subst (λ (z : PlainLabel). kid_at z cs ≡ Some c) found.1 (found_at c cs (labels_ascend cs h) (has_above m c cs found.0))

fits_there : (m l : PlainLabel) (cs : List PlainKeyed) (f : PlainKeyed → Bool) → IsTrue (ascend (kids_from cs)) → IsTrue (if_there (kid_at l cs) f) → IsTrue (if_there (kid_at l (above m cs)) f)
fits_there m l cs f h t =
    elim (kid_at l (above m cs)) as (λ (o : Option PlainKeyed). kid_at l (above m cs) ≡ o → IsTrue (if_there o f)) [
      | None ↦ λ e. refl
      | Some c ↦ λ e. subst (λ (o : Option PlainKeyed). IsTrue (if_there o f)) (same_kid m l cs c h e) t
    ] refl

fit_above : (m : PlainLabel) (ks : PlainNodes) (cs : List PlainKeyed) → IsTrue (ascend (kids_from cs)) → IsTrue (all_fit ks cs) → IsTrue (all_fit ks (above m cs))
fit_above m no_nodes cs h t = refl
fit_above m (node k ks) cs h t =
    let two = both (if_there (kid_at (node_label k) cs) (λ c. fits k c)) (all_fit ks cs) t in
    and_from _ _ (fits_there m (node_label k) cs (λ c. fits k c) h two.0) (fit_above m ks cs h two.1)

-- the first node fits its kid, and the others fit those that are left
pub fit_step : (k : PlainNode) (ks : PlainNodes) (cs : List PlainKeyed) → IsTrue (ascend (kids_from cs)) → IsTrue (all_fit (node k ks) cs)
    → IsTrue (if_there (kid_at (node_label k) cs) (λ c. fits k c)) × IsTrue (all_fit ks (above (node_label k) cs))
fit_step k ks cs h t =
    let two = both (if_there (kid_at (node_label k) cs) (λ c. fits k c)) (all_fit ks cs) t in
    (two.0, fit_above (node_label k) ks cs h two.1)
