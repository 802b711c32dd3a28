use Rattle.nested_merge.proofs.Plans.{plans}
use Rattle.std.proofs.lemmas.Grind.{common_steps}
use Rattle.std.proofs.Common.{◌≡◌, IsTrue, [], arith, map, length, length-append, refl, ap, subst, ◌∙◌}
use Rattle.std.proofs.lemmas.Bool.{leb-true}
use Rattle.std.proofs.lemmas.List.{nil_from_length, length-map}
use Rattle.std.specs.Vec.Iter.{into_iter_items}
use Rattle.archive_tree.specs.View.{node_view}
use Rattle.nested_merge.specs.Plan.{kids_change, alts_change, is_roomy, size, applied, steps_from, fresh_step, old_step}
use Rattle.nested_merge.specs.PlanView.{room_of, mark_view, alt_step_view, step_view, change_view}
use Rattle.nested_merge.proofs.Rows.{pushed, one_done}
use Rattle.nested_merge.proofs.Plans.{step_view-Fresh, step_view-Old, change_view-Kids, change_view-Alts, first_roomy, kids_roomy, sizes_positive}
use Rattle.nested_merge.proofs.Preparing.{no_nodes_ready}
use Rattle.nested_merge.proofs.Readies.{kids_ready}
use Rattle.nested_merge.specs.Ready.{is_ready}
use Rattle.keyed_tree.proofs.Kids.{both}
use Rattle.nested_merge.proofs.apply.+apply.Goals as goal

pub applied_kids-applied_node-requires : goal.applied_kids-applied_node-requires
applied_kids-applied_node-requires t c =
    let steps = c.in-Some.ensures.steps.0 in
    let is : step_view c.in-Some.step ≡ old_step (change_view c.in-Old.change) = ap step_view c.in-Old.is ∙ step_view-Old c.in-Old.change in
    let roomy = rw (steps, is) at c.loop-step.invariant.roomy in
    let smaller = rw (steps, is) at c.loop-step.invariant.smaller in
    let d = c.decreases in
    let rest = sizes_positive (steps_from (map step_view (into_iter_items c.next.new.self))) in
    let ready = rw (steps, is, c.in-Some-next.ensures.items) at c.loop-step.invariant.ready in
    (omega arith, ((first_roomy (old_step (change_view c.in-Old.change)) (steps_from (map step_view (into_iter_items c.next.new.self))) roomy).0, (both _ _ ready).0))

pub applied_kids-loop-step-preserved-in-Some-next : goal.applied_kids-loop-step-preserved-in-Some-next
applied_kids-loop-step-preserved-in-Some-next t c =
    let l = c.loop-step in
    let steps = c.in-Some.ensures.steps.0 in
    let is : step_view c.in-Some.step ≡ old_step (change_view c.in-Old.change) = ap step_view c.in-Old.is ∙ step_view-Old c.in-Old.change in
    let roomy = rw (steps, is) at l.invariant.roomy in
    let smaller = rw (steps, is) at l.invariant.smaller in
    let whole = rw (steps, is, c.in-Some-next.ensures.items) at l.invariant.whole in
    let a = node_view c.in-Some-next.node in
    let s = change_view c.in-Old.change in
    let rest = steps_from (map step_view (into_iter_items c.next.new.self)) in
    let ready = rw (steps, is, c.in-Some-next.ensures.items) at l.invariant.ready in
    let more = pushed node_view l.kids.items c.put-in-Some-next.new.items.items c.applied_node.result (applied c.args.n a s) c.put-in-Some-next.ensures.items c.applied_node.ensures in
    record {
      whole = one_done _ _ _ _ _ _ whole more refl;
      room = (let r = l.invariant.room in let n = ap length steps in omega (arith, c.put-in-Some-next.ensures.room, ap length c.put-in-Some-next.ensures.items, length-append l.kids.items));
      smaller = omega arith;
      roomy = (first_roomy (old_step s) rest roomy).1;
      ready = (both _ _ ready).1;
    }

pub applied_kids-loop-step-preserved-in-Fresh : goal.applied_kids-loop-step-preserved-in-Fresh
applied_kids-loop-step-preserved-in-Fresh t c =
    let l = c.loop-step in
    let steps = c.in-Some.ensures.steps.0 in
    let is : step_view c.in-Some.step ≡ fresh_step (node_view c.in-Fresh.node) = ap step_view c.in-Fresh.is ∙ step_view-Fresh c.in-Fresh.node in
    let roomy = rw (steps, is) at l.invariant.roomy in
    let smaller = rw (steps, is) at l.invariant.smaller in
    let whole = rw (steps, is) at l.invariant.whole in
    let rest = steps_from (map step_view (into_iter_items c.next.new.self)) in
    let more = pushed node_view l.kids.items c.put.new.items.items c.in-Fresh.node (node_view c.in-Fresh.node) c.put.ensures.items refl in
    record {
      whole = one_done _ _ _ _ _ _ whole more refl;
      room = (let r = l.invariant.room in let n = ap length steps in omega (arith, c.put.ensures.room, ap length c.put.ensures.items, length-append l.kids.items));
      smaller = omega arith;
      roomy = (first_roomy (fresh_step (node_view c.in-Fresh.node)) rest roomy).1;
      ready = rw (steps, is) at l.invariant.ready;
    }

pub applied_kids-loop-step-preserved : goal.applied_kids-loop-step-preserved
applied_kids-loop-step-preserved t c =
    let l = c.loop-step in
    let steps = c.in-Some.ensures.steps.0 in
    let is : step_view c.in-Some.step ≡ old_step (change_view c.in-Old.change) = ap step_view c.in-Old.is ∙ step_view-Old c.in-Old.change in
    let roomy = rw (steps, is) at l.invariant.roomy in
    let smaller = rw (steps, is) at l.invariant.smaller in
    let none = c.in-None-next.ensures.items in
    let empty : into_iter_items c.next-in-Old.new.self ≡ [] = nil_from_length _ (let k = c.in-None-next.ensures.cases in let j = c.in-None-next.ensures.len in omega arith) in
    let whole = rw (steps, is, none, empty) at l.invariant.whole in
    let rest = steps_from (map step_view (into_iter_items c.next.new.self)) in
    record {
      whole = rw empty whole;
      room = (let r = l.invariant.room in let n = ap length steps in omega arith);
      smaller = omega arith;
      roomy = (first_roomy (old_step (change_view c.in-Old.change)) rest roomy).1;
      ready = rw empty (no_nodes_ready rest);
    }

pub applied_node-applied_kids-requires : goal.applied_node-applied_kids-requires
applied_node-applied_kids-requires t c =
    let i = c.in-Kids in
    let o = c.in-Inner in
    let is : change_view c.args.change ≡ kids_change (mark_view i.mark) (steps_from (map step_view i.steps.items)) (room_of i.space) = ap change_view i.is ∙ change_view-Kids i.mark i.steps i.space in
    let roomy = kids_roomy (mark_view i.mark) (map step_view i.steps.items) (room_of i.space) (subst (λ z. IsTrue (is_roomy z)) is c.requires.roomy) in
    let ready = kids_ready c.args.n o.label o.stamp (mark_view i.mark) o.kids (steps_from (map step_view i.steps.items)) (room_of i.space) (subst (λ z. IsTrue (is_ready c.args.n z (kids_change (mark_view i.mark) (steps_from (map step_view i.steps.items)) (room_of i.space)))) o.is (subst (λ z. IsTrue (is_ready c.args.n c.args.old z)) is c.requires.ready)) in
    let d = c.decreases in
    let whole = ap size is in
    let all = length-map i.steps.items step_view in
    let n = i.steps.ok.0 in
    (omega arith, (omega arith, (roomy.1, ready.1)))

pub applied_node-applied_alts-requires-clause-room : goal.applied_node-applied_alts-requires-clause-room
applied_node-applied_alts-requires-clause-room t c =
    let i = c.in-Alts in
    let is : change_view c.args.change ≡ alts_change (mark_view i.mark) (map alt_step_view i.steps.items) (room_of i.space) = ap change_view i.is ∙ change_view-Alts i.mark i.steps i.space in
    let roomy = subst (λ z. IsTrue (is_roomy z)) is c.requires.roomy in
    let within = leb-true _ _ roomy in
    let all = length-map i.steps.items alt_step_view in
    let n = i.steps.ok.0 in
    omega arith

pub applied_kids-loop-step-init : goal.applied_kids-loop-step-init
applied_kids-loop-step-init t c = grind (arith, common_steps)

pub applied_kids-returns : goal.applied_kids-returns
applied_kids-returns t c = grind (arith, common_steps)

pub applied_node-returns-in-Inner : goal.applied_node-returns-in-Inner
applied_node-returns-in-Inner t c = grind (arith, plans)

pub applied_node-returns-in-Keep : goal.applied_node-returns-in-Keep
applied_node-returns-in-Keep t c = grind (arith, plans)

pub applied_node-returns-in-Leaf : goal.applied_node-returns-in-Leaf
applied_node-returns-in-Leaf t c = grind (arith, plans)

pub applied_node-returns-in_default : goal.applied_node-returns-in_default
applied_node-returns-in_default t c = grind (arith, plans)

pub applied_node-returns-in_default-old : goal.applied_node-returns-in_default-old
applied_node-returns-in_default-old t c = grind (arith, plans)
