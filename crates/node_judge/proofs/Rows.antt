-- What a node waits for holds at an inner node where a kid meets it, and each kid that is handed something keeps it.
use Rattle.std.proofs.Common.{◌≡◌, Bool, true, false, cond, ◌&&◌, IsTrue, List, [], ◌∷◌, Option, Some, None, is_some, refl, ap, sym, subst, ◌∙◌, true≢false}
use Rattle.std.specs.Prelude.{is_none}
use Rattle.std.proofs.lemmas.Bool.{and_parts, and_from}
use Rattle.std.specs.List.{list_any, list_all}
use Rattle.std.specs.Ordering.{is_eq}
use Rattle.jsonml_tree.proofs.Lists.{has_map}
use Rattle.keyed_tree.specs.Data.{PlainLabel}
use Rattle.keyed_tree.specs.Laws.{label_cmp_total, label_cmp-is_eq}
use Rattle.keyed_tree.specs.Lists.{Ascends, Has}
use Rattle.keyed_tree.specs.Order.{label_cmp}
use Rattle.archive_tree.specs.Data.{Stamp, PlainNode, inner_node, PlainNodes, node_label, node_stamp, nodes_list}
use Rattle.archive_tree.specs.Seek.{node_with, rise}
use Rattle.archive_tree.specs.Stands.{labels}
use Rattle.archive_tree.proofs.Counts.{all_tells, tells_all}
use Rattle.archive_tree.proofs.Histories.{node_has, no_node, rise-all}
use Rattle.archive_tree.proofs.Sufficient.{one_item}
use Rattle.archive_tree.proofs.Tells.{any_tells, tells_any, bools}
use Rattle.archive_file.specs.NodeFits.{attr_label, bare_label, on_some, always}
use Rattle.node_judge.specs.Awaited.{Awaited, leads, equals, is_met, holds_at, lasts_with, keeps}

always-some : (g : PlainNode → Bool) (c : PlainNode) → always g (Some c) ≡ (is_none (node_stamp c) && g c)
always-some g c = elim (is_none (node_stamp c)) as (λ b. on_some g (cond b (Some c) None) ≡ (b && g c)) [ true ↦ refl | false ↦ refl ]

-- ---- a step to the kid with a label

-- what a kid is handed of a thing whose next step is the label m
abbrev step : PlainLabel → Awaited → PlainLabel → Option Awaited
step m x l = cond (is_eq (label_cmp l m)) (Some x) None

module _ (m : PlainLabel) (x : Awaited) where
  step-is : (l : PlainLabel) → l ≡ m → step m x l ≡ Some x
  step-is l e = ap (λ b. cond b (Some x) None) ((label_cmp-is_eq l m).1 e)

  pub is-step : (l : PlainLabel) → IsTrue (is_some (step m x l)) → l ≡ m
  is-step l h = elim (is_eq (label_cmp l m)) as (λ b. is_eq (label_cmp l m) ≡ b → IsTrue (is_some (cond b (Some x) None)) → l ≡ m) [
    | true ↦ λ e g. (label_cmp-is_eq l m).0 e
    | false ↦ λ e g. absurd (true≢false (sym g))
  ] refl h

  -- a kid keeps what it is handed: where it has the label, it inherits, and has what is left
  kept : (k : PlainNode) → (node_label k ≡ m → IsTrue (is_none (node_stamp k) && holds_at x k)) → IsTrue (lasts_with k (step m x (node_label k)))
  kept k h = elim (is_eq (label_cmp (node_label k) m)) as (λ b. is_eq (label_cmp (node_label k) m) ≡ b → IsTrue (lasts_with k (cond b (Some x) None))) [
    | true ↦ λ e. h ((label_cmp-is_eq (node_label k) m).0 e)
    | false ↦ λ e. refl
  ] refl

  of-kept : (k : PlainNode) → IsTrue (lasts_with k (step m x (node_label k))) → node_label k ≡ m → IsTrue (is_none (node_stamp k) && holds_at x k)
  of-kept k h e = subst (λ o. IsTrue (lasts_with k o)) (step-is (node_label k) e) h

  module _ (ks : PlainNodes) (up : Ascends label_cmp (labels ks)) where
    abbrev met : Bool
    met = list_any (λ l. is_some (step m x l)) (labels ks)

    abbrev all-kept : Bool
    all-kept = list_all (λ k. lasts_with k (step m x (node_label k))) (nodes_list ks)

    there : IsTrue (always (holds_at x) (node_with m (nodes_list ks))) → IsTrue (met && all-kept)
    there h = elim (node_with m (nodes_list ks)) as (λ o. node_with m (nodes_list ks) ≡ o → IsTrue (always (holds_at x) o) → IsTrue (met && all-kept)) [
      | None ↦ λ e g. absurd (true≢false (sym g))
      | Some c ↦ λ e g. (
          let found = node_has m c (nodes_list ks) e in
          let lasts : IsTrue (is_none (node_stamp c) && holds_at x c) = sym (always-some (holds_at x) c) ∙ g in
          let named : IsTrue (is_some (step m x (node_label c))) = ap (λ o. is_some o) (step-is (node_label c) found.1) in
          and_from met all-kept
          (tells_any (λ l. is_some (step m x l)) (labels ks) (node_label c) (has_map node_label c (nodes_list ks) found.0) named)
          (tells_all (λ k. lasts_with k (step m x (node_label k))) (nodes_list ks) (λ k i. kept k (λ label. (
          let same : c ≡ k = one_item node_label label_cmp_total (nodes_list ks) c k up found.0 i (found.1 ∙ sym label) in
          subst (λ z. IsTrue (is_none (node_stamp z) && holds_at x z)) same lasts)))))
    ] refl h

    of-there : IsTrue (met && all-kept) → IsTrue (always (holds_at x) (node_with m (nodes_list ks)))
    of-there h =
        let two = and_parts met all-kept h in
        let some = any_tells (λ l. is_some (step m x l)) (labels ks) two.0 in
        let label : some.0 ≡ m = is-step some.0 some.1.1 in
        elim (node_with m (nodes_list ks)) as (λ o. node_with m (nodes_list ks) ≡ o → IsTrue (always (holds_at x) o)) [
          | None ↦ λ e. absurd (no_node m (nodes_list ks) e (subst (λ l. Has l (labels ks)) label some.1.0))
          | Some c ↦ λ e. (
              let found = node_has m c (nodes_list ks) e in
              always-some (holds_at x) c ∙ of-kept c (all_tells (λ k. lasts_with k (step m x (node_label k))) (nodes_list ks) two.1 c found.0) found.1)
        ] refl

    step-holds : always (holds_at x) (node_with m (nodes_list ks)) ≡ (met && all-kept)
    step-holds = bools (always (holds_at x) (node_with m (nodes_list ks))) (met && all-kept) there of-there

-- ---- each kind of what is awaited

-- what no kid is handed is met by none
none-met : (ls : List PlainLabel) → list_any (λ (l : PlainLabel). false) ls ≡ false
none-met [] = refl
none-met (l ∷ ls) = none-met ls

unmet : (ls : List PlainLabel) (b : Bool) → false ≡ (list_any (λ (l : PlainLabel). false) ls && b)
unmet ls b = sym (ap (λ c. c && b) (none-met ls))

-- an inner node has what it waits for
pub kids-hold : (w : Awaited) (l : PlainLabel) (s : Stamp) (ks : PlainNodes) → IsTrue (rise (labels ks))
    → holds_at w (inner_node l s ks) ≡ (is_met (labels ks) w && list_all (λ k. keeps k w) (nodes_list ks))
kids-hold (leads (t ∷ ts) at v) l s ks up = step-holds (bare_label t) (leads ts at v) ks (rise-all (labels ks) up)
kids-hold (leads [] (Some name) v) l s ks up = step-holds (attr_label name) (equals v) ks (rise-all (labels ks) up)
kids-hold (leads [] None v) l s ks up = unmet (labels ks) (list_all (λ k. keeps k (leads [] None v)) (nodes_list ks))
kids-hold (equals v) l s ks up = unmet (labels ks) (list_all (λ k. keeps k (equals v)) (nodes_list ks))
