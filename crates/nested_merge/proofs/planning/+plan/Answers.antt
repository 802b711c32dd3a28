use Rattle.nested_merge.proofs.Plans.{plans}
use Rattle.std.proofs.lemmas.Grind.{common_steps}
use Rattle.std.proofs.Common.{◌≡◌, ◌+◌, arith, sym, ap, ◌∙◌, map, drop}
use Rattle.std.specs.Option.{unwrap_or}
use Rattle.std.specs.declared.cmp.Ordering.TheVariants.{Equal, Greater}
use Rattle.version_set.specs.View.{pairs_of}
use Rattle.keyed_tree.specs.Order.{label_cmp}
use Rattle.keyed_tree.specs.Data.{inner, leaf, kids_from, kids_list, label_of}
use Rattle.keyed_tree.specs.View.{key_view, label_view, keyed_view}
use Rattle.keyed_tree.proofs.Kids.{kids_list-kids_from}
use Rattle.keyed_tree.proofs.Views.{keyed_view-Inner, keyed_view-Leaf}
use Rattle.archive_tree.specs.Data.{inner_node, leaf_node, node_label}
use Rattle.archive_tree.specs.View.{stamp_view, alt_view, node_view, nodes_view}
use Rattle.nested_merge.specs.Plan.{steps_list, old_step, gone_step, planned_alts, planned, planned_row}
use Rattle.nested_merge.specs.PlanView.{alt_step_view, step_view}
use Rattle.nested_merge.specs.declared.plan.Mark.TheVariants.{Grow}
use Rattle.nested_merge.proofs.Plans as steps
use Rattle.nested_merge.proofs.Plans.{step_view-Old, planned_kids}
use Rattle.nested_merge.proofs.Rows.{node_view-Inner, node_view-Leaf, step_equal, step_greater, drop_at, ascend_tail, ordered_tail, pushed, one_done}
use Rattle.nested_merge.proofs.planning.+plan.Goals as goal

pub planned_kids-loop-steps-preserved-in-Equal : goal.planned_kids-loop-steps-preserved-in-Equal
planned_kids-loop-steps-preserved-in-Equal t c =
    let l = c.loop-steps in
    let at = c.in-Some-Some in
    let k = node_view at.node.now in
    let d = keyed_view at.kid.now in
    let old = drop_at c.args.old.now l.i at.node.now at.ensures.lookup.3.0 at.ensures.lookup.1 in
    let new = drop_at c.args.new.now l.j at.kid.now at.ensures'.lookup.3.0 at.ensures'.lookup.1 in
    let order : label_cmp (label_of d) (node_label k) ≡ Equal = sym (c.in-Equal.ensures ∙ (λ i. label_cmp (c.label.ensures i) (c.label-in-Some-Some.ensures i))) in
    let up = rw new.1 at l.invariant.ascending in
    let tidy = rw new.1 at l.invariant.ordered in
    let whole = rw (old.1, new.1) at l.invariant.decides in
    let ks = map node_view (drop (l.i + 1) c.args.old.now) in
    let ds = map keyed_view (drop (l.j + 1) c.args.new.now) in
    let step = step_equal c.args.n (pairs_of c.args.set.now) k ks d ds order up in
    let more = pushed step_view l.steps.items c.push-in-Equal.new.self.items _ (old_step (planned c.args.n (pairs_of c.args.set.now) k d)) c.in_ok-push-in-Equal.ensures.items (step_view-Old c.in_ok-planned_node-in-Equal.field-0 ∙ ap (λ z. old_step z) c.in_ok-planned_node-in-Equal.ensures) in
    record {
      old_in = (let h = old.0 in omega arith);
      new_in = (let h = new.0 in omega arith);
      ascending = ascend_tail d ds up;
      ordered = ordered_tail d ds tidy;
      decides = one_done _ _ _ _ _ _ whole more step;
    }

pub planned_kids-loop-steps-preserved : goal.planned_kids-loop-steps-preserved
planned_kids-loop-steps-preserved t c =
    let l = c.loop-steps in
    let at = c.in-Some-Some in
    let k = node_view at.node.now in
    let d = keyed_view at.kid.now in
    let old = drop_at c.args.old.now l.i at.node.now at.ensures.lookup.3.0 at.ensures.lookup.1 in
    let new = drop_at c.args.new.now l.j at.kid.now at.ensures'.lookup.3.0 at.ensures'.lookup.1 in
    let order : label_cmp (label_of d) (node_label k) ≡ Greater = sym (c.in-Greater.ensures ∙ (λ i. label_cmp (c.label.ensures i) (c.label-in-Some-Some.ensures i))) in
    let up = rw new.1 at l.invariant.ascending in
    let whole = rw (old.1, new.1) at l.invariant.decides in
    let ks = map node_view (drop (l.i + 1) c.args.old.now) in
    let ds = map keyed_view (drop (l.j + 1) c.args.new.now) in
    let step = step_greater c.args.n (pairs_of c.args.set.now) k ks d ds order up in
    let more = pushed step_view l.steps.items c.push-in-Greater.new.self.items c.in_ok-gone_step-in-Greater.field-0 (gone_step (pairs_of c.args.set.now) k) c.in_ok-push-in-Greater.ensures.items c.in_ok-gone_step-in-Greater.ensures in
    record {
      old_in = (let h = old.0 in omega arith);
      new_in = l.invariant.new_in;
      ascending = l.invariant.ascending;
      ordered = l.invariant.ordered;
      decides = rw new.1 (one_done _ _ _ _ _ _ whole more step);
    }

pub planned_node-returns-in_ok-space-in-Inner-Inner : goal.planned_node-returns-in_ok-space-in-Inner-Inner
planned_node-returns-in_ok-space-in-Inner-Inner t c =
    let i = c.in-Inner-Inner in
    let v = c.in_ok-steps-in-Inner-Inner.steps in
    let n = c.args.n in
    let q = unwrap_or (stamp_view i.stamp) (pairs_of c.args.parent.now) in
    let ks = nodes_view i.kids.items in
    let cs = map keyed_view i.more.items in
    let old : node_view c.args.old.now ≡ inner_node (label_view i.label-0) (stamp_view i.stamp) ks = ap node_view i.is-0 ∙ node_view-Inner i.label-0 i.stamp i.kids in
    let new : keyed_view c.args.new.now ≡ inner (label_view i.label-1) (kids_from cs) = ap keyed_view i.is-1 ∙ keyed_view-Inner i.label-1 i.more in
    let row : map step_view v.items ≡ steps_list (planned_row n q ks (kids_list (kids_from cs))) =
    c.in_ok-steps-in-Inner-Inner.ensures ∙ (λ j. steps_list (planned_row n (c.effective.ensures.pairs j) (nodes_view (c.deref.ensures.value j)) (map keyed_view (c.deref-in-Inner-Inner.ensures.value j)))) ∙ sym (ap (λ z. steps_list (planned_row n q ks z)) (kids_list-kids_from cs)) in
    planned_kids v c.in_ok-space-in-Inner-Inner.space Grow (planned_row n q ks (kids_list (kids_from cs))) row (c.in_ok-space-in-Inner-Inner.ensures ∙ c.len.ensures)
    ∙ sym (λ j. planned n (pairs_of c.args.parent.now) (old j) (new j))

pub planned_node-returns-in_ok-space-in-Leaf-Leaf : goal.planned_node-returns-in_ok-space-in-Leaf-Leaf
planned_node-returns-in_ok-space-in-Leaf-Leaf t c =
    let i = c.in-Leaf-Leaf in
    let v = c.in_ok-steps-in-Leaf-Leaf.steps in
    let n = c.args.n in
    let q = unwrap_or (stamp_view i.stamp) (pairs_of c.args.parent.now) in
    let xs = map alt_view i.alts.items in
    let old : node_view c.args.old.now ≡ leaf_node (label_view i.label-0) (stamp_view i.stamp) xs = ap node_view i.is-0 ∙ node_view-Leaf i.label-0 i.stamp i.alts in
    let new : keyed_view c.args.new.now ≡ leaf (label_view i.label-1) (key_view i.body) = ap keyed_view i.is-1 ∙ keyed_view-Leaf i.label-1 i.body in
    let row : map alt_step_view v.items ≡ planned_alts n q (key_view i.body) xs =
    c.in_ok-steps-in-Leaf-Leaf.ensures ∙ (λ j. planned_alts n (c.effective-in-Leaf-Leaf.ensures.pairs j) (key_view i.body) (map alt_view (c.deref-in-Leaf-Leaf.ensures.value j))) in
    steps.planned_alts v c.in_ok-space-in-Leaf-Leaf.space Grow (planned_alts n q (key_view i.body) xs) row (c.in_ok-space-in-Leaf-Leaf.ensures ∙ c.len-in-Leaf-Leaf.ensures)
    ∙ sym (λ j. planned n (pairs_of c.args.parent.now) (old j) (new j))

pub planned_kids-loop-steps-init : goal.planned_kids-loop-steps-init
planned_kids-loop-steps-init t c = grind (arith, common_steps)

pub planned_kids-loop-steps-preserved-in-Less : goal.planned_kids-loop-steps-preserved-in-Less
planned_kids-loop-steps-preserved-in-Less t c = grind (arith, common_steps)

pub planned_kids-loop-steps-preserved-in-None-Some : goal.planned_kids-loop-steps-preserved-in-None-Some
planned_kids-loop-steps-preserved-in-None-Some t c = grind (arith, common_steps)

pub planned_kids-loop-steps-preserved-in-Some-None : goal.planned_kids-loop-steps-preserved-in-Some-None
planned_kids-loop-steps-preserved-in-Some-None t c = grind (arith, common_steps)

pub planned_kids-returns-in-None-None : goal.planned_kids-returns-in-None-None
planned_kids-returns-in-None-None t c = grind (arith, common_steps)

pub planned_node-returns-in-Inner-Leaf : goal.planned_node-returns-in-Inner-Leaf
planned_node-returns-in-Inner-Leaf t c = grind (arith, plans)

pub planned_node-returns-in-Leaf-Inner : goal.planned_node-returns-in-Leaf-Inner
planned_node-returns-in-Leaf-Inner t c = grind (arith, plans)
