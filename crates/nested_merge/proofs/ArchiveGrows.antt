-- The archive of a list with one more version.
use Rattle.std.proofs.Common.{◌≡◌, ℕ, suc, ◌+◌, true, false, cond, List, [], ◌∷◌, ◌++◌, length, Some, None, IfSome, refl, ap, sym, subst, ◌∙◌, arith, inl, inr, length-append}
use Rattle.std.specs.List.{AllByRecursion, enumerate_from, range_with_len}
use Rattle.std.specs.Ordering.{is_eq}
use Rattle.version_set.specs.Members.{members, upto_pairs}
use Rattle.version_set.proofs.Sets.{members-upto_pairs, IsCanonical-upto_pairs}
use Rattle.keyed_tree.specs.Data.{PlainLabel, PlainKeyed, label_of}
use Rattle.keyed_tree.specs.Kids.{IsOrdered, kid_at}
use Rattle.keyed_tree.specs.Laws.{label_cmp-is_eq}
use Rattle.keyed_tree.specs.Lists.{Has}
use Rattle.keyed_tree.specs.Order.{label_cmp}
use Rattle.keyed_tree.specs.Proper.{IsElement}
use Rattle.jsonml_tree.proofs.Lists.{has_all}
use Rattle.archive_tree.specs.Data.{PlainNodes, no_nodes, node, node_label, PlainArchive}
use Rattle.archive_tree.specs.Stands.{nums, passed, rooted, numbered, RowStands, EachStands, ArchiveOf}
use Rattle.archive_tree.proofs.Those.{onto, all_those, labelled, rooted_has, nums-enumerate}
use Rattle.nested_merge.specs.Merged.{merged_row, with_version}
use Rattle.nested_merge.specs.Alike.{AlikeAll}
use Rattle.nested_merge.proofs.Picked.{those-append, nums-append, all_append}
use Rattle.nested_merge.proofs.Stamps.{Below, range_below}
use Rattle.nested_merge.proofs.Grown.{Fits, EachFits, row_grows, nodes_grow}
use Rattle.nested_merge.proofs.Alikes.{all_alike, AlikeBelow, alike_below, fits}

enumerate-append : (n : ℕ) (vs : List PlainKeyed) (k : PlainKeyed) → enumerate_from n (vs ++ k ∷ []) ≡ enumerate_from n vs ++ (n + length vs, k) ∷ []
enumerate-append n [] k = (let e : n + 0 ≡ n = omega arith in rw e)
enumerate-append n (v ∷ vs) k = (let e : n + suc (length vs) ≡ (n + 1) + length vs = omega arith in rw e (ap (λ z. (n, v) ∷ z) (enumerate-append (n + 1) vs k)))

pub numbered-append : (vs : List PlainKeyed) (k : PlainKeyed) (n : ℕ) → length vs ≡ n → numbered (vs ++ k ∷ []) ≡ numbered vs ++ (n + 1, k) ∷ []
numbered-append vs k n e = (let place : 1 + length vs ≡ n + 1 = omega arith in enumerate-append 1 vs k ∙ ap (λ z. numbered vs ++ (z, k) ∷ []) place)

-- the versions with a label, as a search among the one new tree gives it
root_more : (vs : List PlainKeyed) (k : PlainKeyed) (n : ℕ) → length vs ≡ n → (l : PlainLabel) → rooted (numbered (vs ++ k ∷ [])) l ≡ rooted (numbered vs) l ++ onto (n + 1) (kid_at l (k ∷ [])) []
root_more vs k n e l = ap (λ z. rooted z l) (numbered-append vs k n e) ∙ those-append (passed (labelled l)) (numbered vs) (n + 1) k

numbered_has : (n i : ℕ) (t : PlainKeyed) (vs : List PlainKeyed) → Has (i, t) (enumerate_from n vs) → Has t vs
numbered_has n i t [] m = absurd m
numbered_has n i t (v ∷ vs) m = elim m [ inl e ↦ inl (ap (λ (z : ℕ × PlainKeyed). z.1) e) | inr x ↦ inr (numbered_has (n + 1) i t vs x) ]

module _ (vs : List PlainKeyed) (a : PlainArchive) (k : PlainKeyed) (h : ArchiveOf vs a) (alike : AlikeAll vs k) where
  set : members (upto_pairs a.n) ≡ nums (numbered vs)
  set = members-upto_pairs a.n ∙ sym (nums-enumerate 1 vs ∙ ap (range_with_len 1) h.count)

  alike_roots : (l : PlainLabel) → label_of k ≡ l → AllByRecursion (λ w. AlikeBelow w.1 k) (rooted (numbered vs) l)
  alike_roots l e = has_all (λ (w : ℕ × PlainKeyed). AlikeBelow w.1 k) (rooted (numbered vs) l)
      (λ w m. (let found = rooted_has w.0 w.1 l (numbered vs) m in alike_below w.1 k (alike w.1 (numbered_has 1 w.0 w.1 vs found.0)) (found.1 ∙ sym e)))

  pub root_fits : (js : PlainNodes) → EachStands js (rooted (numbered vs)) (nums (numbered vs)) → EachFits js (k ∷ [])
  root_fits no_nodes g = tt
  root_fits (node j js) g = (
    elim (is_eq (label_cmp (label_of k) (node_label j))) as (λ b. is_eq (label_cmp (label_of k) (node_label j)) ≡ b → IfSome (cond b (Some k) None) (λ d. Fits j d)) [
      | true ↦ λ e. fits j (rooted (numbered vs) (node_label j)) (nums (numbered vs)) k g.0 (alike_roots (node_label j) ((label_cmp-is_eq (label_of k) (node_label j)).0 e))
      | false ↦ λ e. tt
    ] refl,
    root_fits js g.1,
  )

  pub archive_grows : IsOrdered k → IsElement k → ArchiveOf (vs ++ k ∷ []) (with_version a k)
  archive_grows o t =
      let n = a.n in
      let u = rooted (numbered vs) in
      let u' = rooted (numbered (vs ++ k ∷ [])) in
      let low : Below (n + 1) (nums (numbered vs)) = subst (λ z. Below (n + 1) z) (sym (nums-enumerate 1 vs)) (range_below (n + 1) 1 (length vs) (let c = h.count in omega arith)) in
      let old : RowStands a.kids u (EachStands a.kids u (members (upto_pairs n))) = subst (λ z. RowStands a.kids u (EachStands a.kids u z)) (sym set) h.row in
      let row = row_grows (n + 1) (upto_pairs n) (omega arith) (IsCanonical-upto_pairs n) u u' (λ l. all_those _ _ (numbered vs) low) (k ∷ []) (root_more vs k n h.count) a.kids (nodes_grow a.kids) (tt, tt) (λ c m. elim m [ inl e ↦ subst IsOrdered e o | inr x ↦ absurd x ]) (root_fits a.kids h.row.kids) old in
      let numbers : members (upto_pairs n) ++ (n + 1) ∷ [] ≡ nums (numbered (vs ++ k ∷ [])) = ap (λ z. z ++ (n + 1) ∷ []) set ∙ sym (nums-append (numbered vs) (n + 1) k) ∙ ap nums (sym (numbered-append vs k n h.count)) in
      let new = merged_row (n + 1) (upto_pairs n) a.kids (k ∷ []) in
      record {
        count = length-append vs (k ∷ []) ∙ (let c = h.count in omega arith);
        ordered = all_append IsOrdered vs (k ∷ []) h.ordered (o, tt);
        elements = all_append IsElement vs (k ∷ []) h.elements (t, tt);
        alike = all_alike vs k h.alike alike;
        row = subst (λ z. RowStands new u' (EachStands new u' z)) numbers row;
      }
