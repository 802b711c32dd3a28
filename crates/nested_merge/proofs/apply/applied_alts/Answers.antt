use Rattle.std.proofs.lemmas.Grind.{common_steps}
use Rattle.std.proofs.Common.{◌≡◌, [], map, length, ap, arith}
use Rattle.std.proofs.lemmas.List.{nil_from_length}
use Rattle.std.specs.Vec.Iter.{into_iter_items}
use Rattle.nested_merge.specs.Plan.{old_alt}
use Rattle.nested_merge.specs.PlanView.{mark_view, alt_step_view}
use Rattle.nested_merge.proofs.Preparing.{no_alts}
use Rattle.nested_merge.proofs.apply.applied_alts.Goals as goal

pub loop-step-preserved : goal.loop-step-preserved
loop-step-preserved c =
    let l = c.loop-step in
    let steps = c.in-Some.ensures.steps.0 in
    let is : alt_step_view c.in-Some.step ≡ old_alt (mark_view c.in-Old.mark) = ap alt_step_view c.in-Old.is in
    let none = c.in-None-next.ensures.items in
    let empty : into_iter_items c.next-in-Old.new.self ≡ [] = nil_from_length _ (let k = c.in-None-next.ensures.cases in let j = c.in-None-next.ensures.len in omega arith) in
    let whole = rw (steps, is, none, empty) at l.invariant.whole in
    record {
      whole = rw empty whole;
      ready = rw empty (no_alts c.args.n (map alt_step_view (into_iter_items c.next.new.self)));
      room = (let r = l.invariant.room in let n = ap length steps in omega arith);
    }

pub loop-step-init : goal.loop-step-init
loop-step-init c = grind (arith, common_steps)

pub loop-step-preserved-in-New : goal.loop-step-preserved-in-New
loop-step-preserved-in-New c = grind (arith, common_steps)

pub loop-step-preserved-in-Some-next : goal.loop-step-preserved-in-Some-next
loop-step-preserved-in-Some-next c = grind (arith, common_steps)

pub returns : goal.returns
returns c = grind (arith, common_steps)
