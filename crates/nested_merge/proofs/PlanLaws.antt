-- What the steps of a version make is the node with that version, and they have room for it.
use Rattle.std.proofs.Common.{◌≡◌, ℕ, Bool, true, false, cond, IsTrue, List, [], ◌∷◌, ◌++◌, map, length, Some, None, refl, ap, ◌∙◌, arith}
use Rattle.std.proofs.lemmas.Bool.{le-leb, and_from}
use Rattle.std.specs.Option.{unwrap_or}
use Rattle.std.specs.Ordering.{is_eq}
use Rattle.keyed_tree.specs.Data.{PlainKey, PlainKeyed, inner, leaf, kids_list}
use Rattle.keyed_tree.specs.Kids.{kid_at}
use Rattle.keyed_tree.specs.Order.{key_cmp}
use Rattle.archive_tree.specs.Data.{Stamp, PlainAlt, PlainNode, inner_node, leaf_node, PlainNodes, no_nodes, node, node_label, node_stamp}
use Rattle.nested_merge.specs.Merged.{grown, kept, started, vanished, fresh, fresh_onto, below, above, has_alt, merged_alt, merged_alts, turn, merged, merged_row}
use Rattle.nested_merge.specs.Plan.{grow, PlainAltStep, new_alt, keep, PlainSteps, no_steps, count, is_roomy, are_roomy, changed, kept_mark, applied_alts, applied, applied_row, planned_alt, planned_alts, fresh_steps, turn_change, planned, planned_row}

changed-kept : (n : ℕ) (q : List (ℕ × ℕ)) (s : Stamp) → changed n s (kept_mark q s) ≡ kept q s
changed-kept n q None = refl
changed-kept n q (Some s) = refl

module _ (n : ℕ) (q : List (ℕ × ℕ)) (b : PlainKey) where
  alt_made : (a : PlainAlt) (t : Bool) → ◌≡◌ {A = PlainAlt} (record { stamp = changed n a.stamp (cond t grow (kept_mark q a.stamp)); body = a.body })
      (cond t (record { stamp = grown n a.stamp; body = a.body }) (record { stamp = kept q a.stamp; body = a.body }))
  alt_made a true = refl
  alt_made a false = λ i. record { stamp = changed-kept n q a.stamp i; body = a.body }

  old_made : (xs : List PlainAlt) (ss : List PlainAltStep) → applied_alts n xs (map (planned_alt q b) xs ++ ss) ≡ map (merged_alt n q b) xs ++ applied_alts n [] ss
  old_made [] ss = refl
  old_made (x ∷ xs) ss = λ i. alt_made x (is_eq (key_cmp x.body b)) i ∷ old_made xs ss i

  new_made : (t : Bool) (a : PlainAlt) → applied_alts n [] (cond t [] (new_alt a ∷ [])) ≡ cond t [] (a ∷ [])
  new_made true a = refl
  new_made false a = refl

  alts_made : (xs : List PlainAlt) → applied_alts n xs (planned_alts n q b xs) ≡ merged_alts n q b xs
  alts_made xs =
      let new : PlainAlt = record { stamp = Some ((n, n) ∷ []); body = b } in
      old_made xs (cond (has_alt b xs) [] (new_alt new ∷ [])) ∙ ap (λ z. map (merged_alt n q b) xs ++ z) (new_made (has_alt b xs) new)

fresh_made : (n : ℕ) (s : Stamp) (bs : List PlainKeyed) (ks : PlainNodes) (ss : PlainSteps) → applied_row n ks (fresh_steps s bs ss) ≡ fresh_onto s bs (applied_row n ks ss)
fresh_made n s [] ks ss = refl
fresh_made n s (b ∷ bs) ks ss = ap (λ z. node (fresh s b) z) (fresh_made n s bs ks ss)

gone_made : (n : ℕ) (q : List (ℕ × ℕ)) (k : PlainNode) → applied n k (keep (kept_mark q (node_stamp k))) ≡ vanished q k
gone_made n q (inner_node l s ks) = λ i. inner_node l (changed-kept n q s i) ks
gone_made n q (leaf_node l s xs) = λ i. leaf_node l (changed-kept n q s i) xs

mutual
  pub applied-planned : (n : ℕ) (q : List (ℕ × ℕ)) (a : PlainNode) (c : PlainKeyed) → applied n a (planned n q a c) ≡ merged n q a c
  applied-planned n q (inner_node l s ks) (inner m cs) = λ i. inner_node l (grown n s) (applied_row-planned n (unwrap_or s q) ks (kids_list cs) i)
  applied-planned n q (inner_node l s ks) (leaf m b) = refl
  applied-planned n q (leaf_node l s xs) (inner m cs) = refl
  applied-planned n q (leaf_node l s xs) (leaf m b) = λ i. leaf_node l (grown n s) (alts_made n (unwrap_or s q) b xs i)

  pub applied_row-planned : (n : ℕ) (q : List (ℕ × ℕ)) (ks : PlainNodes) (cs : List PlainKeyed) → applied_row n ks (planned_row n q ks cs) ≡ merged_row n q ks cs
  applied_row-planned n q no_nodes cs = fresh_made n (started n q) cs no_nodes no_steps
  applied_row-planned n q (node k ks) cs =
      let m = node_label k in
      let here : applied n k (turn_change (keep (kept_mark q (node_stamp k))) (λ c. planned n q k c) (kid_at m cs)) ≡ turn (vanished q k) (λ c. merged n q k c) (kid_at m cs) =
      elim (kid_at m cs) as (λ o. applied n k (turn_change (keep (kept_mark q (node_stamp k))) (λ c. planned n q k c) o) ≡ turn (vanished q k) (λ c. merged n q k c) o) [
        | None ↦ gone_made n q k
        | Some c ↦ applied-planned n q k c
      ] in
      let rest = applied_row-planned n q ks (above m cs) in
      fresh_made n (started n q) (below m cs) (node k ks) _ ∙ (λ i. fresh_onto (started n q) (below m cs) (node (here i) (rest i)))

-- ---- room

fresh_roomy : (s : Stamp) (bs : List PlainKeyed) (ss : PlainSteps) → IsTrue (are_roomy ss) → IsTrue (are_roomy (fresh_steps s bs ss))
fresh_roomy s [] ss h = h
fresh_roomy s (b ∷ bs) ss h = fresh_roomy s bs ss h

mutual
  planned_roomy : (n : ℕ) (q : List (ℕ × ℕ)) (a : PlainNode) (c : PlainKeyed) → IsTrue (is_roomy (planned n q a c))
  planned_roomy n q (inner_node l s ks) (inner m cs) =
      let ss = planned_row n (unwrap_or s q) ks (kids_list cs) in
      and_from _ _ (le-leb (count ss) (count ss) (omega arith)) (row_roomy n (unwrap_or s q) ks (kids_list cs))
  planned_roomy n q (inner_node l s ks) (leaf m b) = refl
  planned_roomy n q (leaf_node l s xs) (inner m cs) = refl
  planned_roomy n q (leaf_node l s xs) (leaf m b) = (let ss = planned_alts n (unwrap_or s q) b xs in le-leb (length ss) (length ss) (omega arith))

  pub row_roomy : (n : ℕ) (q : List (ℕ × ℕ)) (ks : PlainNodes) (cs : List PlainKeyed) → IsTrue (are_roomy (planned_row n q ks cs))
  row_roomy n q no_nodes cs = fresh_roomy (started n q) cs no_steps refl
  row_roomy n q (node k ks) cs =
      let m = node_label k in
      let here : IsTrue (is_roomy (turn_change (keep (kept_mark q (node_stamp k))) (λ c. planned n q k c) (kid_at m cs))) =
      elim (kid_at m cs) as (λ o. IsTrue (is_roomy (turn_change (keep (kept_mark q (node_stamp k))) (λ c. planned n q k c) o))) [ None ↦ refl | Some c ↦ planned_roomy n q k c ] in
      fresh_roomy (started n q) (below m cs) _ (and_from _ _ here (row_roomy n q ks (above m cs)))
