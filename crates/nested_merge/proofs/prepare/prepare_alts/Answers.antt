use Rattle.std.proofs.Common.{◌≡◌, ◌&&◌, true, IsTrue, ◌∷◌, ◌++◌, map, get_or, take, refl, subst, sym, ap, ◌∙◌, arith}
use Rattle.std.proofs.Math.Seq.{map-set_same}
use Rattle.archive_tree.specs.View.{alt_view}
use Rattle.archive_tree.specs.declared.node.Alt.{Alt}
use Rattle.nested_merge.specs.Below.{are_alts_below}
use Rattle.nested_merge.specs.PlanView.{mark_view, alt_step_view}
use Rattle.nested_merge.specs.Ready.{is_stamp_ready, are_alts_ready}
use Rattle.nested_merge.proofs.Preparing.{all_elements, all_steps, one_ready, none_ready, no_alts, alt_below}
use Rattle.nested_merge.proofs.prepare.prepare_alts.Goals as goal
use Rattle.nested_merge.proofs.prepare.prepare_alts.Goals.{in-Old+else-i-alts+in_ok-prepare_stamp, in_default}

pub returns-then-i-alts-clause-ready : goal.returns-then-i-alts-clause-ready
returns-then-i-alts-clause-ready c =
    let l = c.loop-step in
    all_elements (λ xs ss. are_alts_ready c.args.n xs (map alt_step_view ss)) l.alts c.args.steps.now l.i l.step-index l.invariant.decides (omega arith) (λ more. no_alts c.args.n (map alt_step_view more))

pub prepare_stamp-requires : goal.prepare_stamp-requires
prepare_stamp-requires c =
    let l = c.loop-step in
    alt_below c.args.n l.alts l.i c.index-alts-i.result (omega arith) (subst (λ z. IsTrue (are_alts_below c.args.n z)) (sym l.invariant.same) c.requires)

pub returns-in_err-prepare_stamp-clause-same : goal.returns-in_err-prepare_stamp-clause-same
returns-in_err-prepare_stamp-clause-same c =
    let l = c.loop-step in
    let x = get_or l.alts l.i c.index-alts-i.result in
    map-set_same alt_view l.alts l.i _ c.index-alts-i.result (λ i. record { stamp = c.prepare_stamp.ensures.same i; body = (alt_view x).body }) ∙ l.invariant.same

pub loop-step-preserved : goal.loop-step-preserved
loop-step-preserved c =
    let l = c.loop-step in
    let n = c.args.n in
    let ss = c.args.steps.now in
    let s = c.step-item in
    elim c.match-step.branch [
      | in-Old+else-i-alts+in_ok-prepare_stamp w ↦ (
          let x = get_or l.alts l.i w.index-alts-i.result in
          let y : Alt = record { stamp = w.prepare_stamp.new.stamp; body = x.body } in
          let here : is_stamp_ready n y.stamp (mark_view w.in-Old.mark) ≡ true = w.in_ok-prepare_stamp.ensures.ready in
          let more = one_ready (λ xs ss. are_alts_ready n xs (map alt_step_view ss)) l.alts ss l.i l.step-index y s.result l.invariant.decides (omega arith) c.loop-step-test.true s.is
          (λ rest more. ap (λ z. are_alts_ready n (y ∷ rest) (alt_step_view z ∷ map alt_step_view more)) w.in-Old.is ∙ ap (λ b. b && are_alts_ready n rest (map alt_step_view more)) here) in
          record {
            same = ap (map alt_view) w.alts-is ∙ map-set_same alt_view l.alts l.i y w.index-alts-i.result (λ i. record { stamp = w.prepare_stamp.ensures.same i; body = (alt_view x).body }) ∙ l.invariant.same;
            within = omega arith;
            decides = λ rest. (λ k. are_alts_ready n (take (w.i-is k) (w.alts-is k) ++ rest) (map alt_step_view ss)) ∙ more rest;
          })
      | in_default w ↦ (
          let new = none_ready (λ xs ss. are_alts_ready n xs (map alt_step_view ss)) l.alts ss l.i l.step-index s.result l.invariant.decides c.loop-step-test.true s.is
          (λ rest more. ap (λ z. are_alts_ready n rest (alt_step_view z ∷ map alt_step_view more)) w.in_default.is) in
          record {
            same = ap (map alt_view) w.alts-is ∙ l.invariant.same;
            within = omega arith;
            decides = λ rest. (λ k. are_alts_ready n (take (w.i-is k) (w.alts-is k) ++ rest) (map alt_step_view ss)) ∙ new rest;
          })
    ]

pub returns-clause-ready : goal.returns-clause-ready
returns-clause-ready c =
    let l = c.loop-step in
    all_steps (λ xs ss. are_alts_ready c.args.n xs (map alt_step_view ss)) l.alts c.args.steps.now l.i l.step-index l.invariant.decides (omega arith) (λ rest. refl)
