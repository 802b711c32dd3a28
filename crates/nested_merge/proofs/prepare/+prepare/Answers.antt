use Rattle.std.proofs.lemmas.Grind.{common_steps}
use Rattle.std.proofs.Common.{◌≡◌, ◌&&◌, true, IsTrue, ◌∷◌, ◌++◌, map, take, refl, subst, sym, ap, ◌∙◌, arith}
use Rattle.std.proofs.Math.Seq.{map-set_same}
use Rattle.archive_tree.specs.Data.{nodes_from}
use Rattle.archive_tree.specs.View.{node_view}
use Rattle.nested_merge.specs.Below.{are_nodes_below}
use Rattle.nested_merge.specs.Plan.{step, old_step, fresh_step, steps_from}
use Rattle.nested_merge.specs.PlanView.{step_view, change_view}
use Rattle.nested_merge.specs.Ready.{is_ready, are_ready}
use Rattle.nested_merge.proofs.Plans.{step_view-Fresh, step_view-Old, step_smaller}
use Rattle.nested_merge.proofs.Preparing.{all_elements, all_steps, one_ready, none_ready, no_nodes_ready, node_below}
use Rattle.nested_merge.proofs.prepare.+prepare.Goals as goal
use Rattle.nested_merge.proofs.prepare.+prepare.Goals.{prepare_kids-in-Old+else-i-nodes+in_ok-prepare_node, prepare_kids-in_default}

pub prepare_kids-returns-then-i-nodes-clause-ready : goal.prepare_kids-returns-then-i-nodes-clause-ready
prepare_kids-returns-then-i-nodes-clause-ready t c =
    let l = c.loop-step in
    all_elements (λ ks ss. are_ready (map (is_ready c.args.n) ks) (steps_from (map step_view ss))) l.nodes c.args.steps.now l.i l.step-index l.invariant.decides (omega arith) (λ more. no_nodes_ready (steps_from (map step_view more)))

pub prepare_kids-prepare_node-requires : goal.prepare_kids-prepare_node-requires
prepare_kids-prepare_node-requires t c =
    let l = c.loop-step in
    let is : step_view c.step-item.result ≡ old_step (change_view c.in-Old.change) = ap step_view c.in-Old.is ∙ step_view-Old c.in-Old.change in
    let smaller = rw is at (step_smaller c.args.steps.now l.step-index c.step-item.result c.loop-step-test.true c.step-item.is) in
    let d = c.decreases in
    (omega arith, node_below c.args.n l.nodes l.i c.index-nodes-i.result (omega arith) (subst (λ z. IsTrue (are_nodes_below c.args.n (nodes_from z))) (sym l.invariant.same) c.requires))

pub prepare_kids-returns-in_err-prepare_node-clause-same : goal.prepare_kids-returns-in_err-prepare_node-clause-same
prepare_kids-returns-in_err-prepare_node-clause-same t c =
    let l = c.loop-step in
    ap nodes_from (map-set_same node_view l.nodes l.i c.prepare_node.new.node c.index-nodes-i.result c.prepare_node.ensures.same ∙ l.invariant.same)

pub prepare_kids-loop-step-preserved : goal.prepare_kids-loop-step-preserved
prepare_kids-loop-step-preserved t c =
    let l = c.loop-step in
    let n = c.args.n in
    let ss = c.args.steps.now in
    let s = c.step-item in
    elim c.match-step.branch [
      | prepare_kids-in-Old+else-i-nodes+in_ok-prepare_node w ↦ (
          let y = w.prepare_node.new.node in
          let is : step_view s.result ≡ old_step (change_view w.in-Old.change) = ap step_view w.in-Old.is ∙ step_view-Old w.in-Old.change in
          let here : is_ready n y (change_view w.in-Old.change) ≡ true = w.in_ok-prepare_node.ensures.ready in
          let more = one_ready (λ ks ss. are_ready (map (is_ready n) ks) (steps_from (map step_view ss))) l.nodes ss l.i l.step-index y s.result l.invariant.decides (omega arith) c.loop-step-test.true s.is
          (λ rest more. ap (λ z. are_ready (is_ready n y ∷ map (is_ready n) rest) (step z (steps_from (map step_view more)))) is ∙ ap (λ b. b && are_ready (map (is_ready n) rest) (steps_from (map step_view more))) here) in
          record {
            same = ap (map node_view) w.nodes-is ∙ map-set_same node_view l.nodes l.i y w.index-nodes-i.result w.prepare_node.ensures.same ∙ l.invariant.same;
            within = omega arith;
            decides = λ rest. (λ k. are_ready (map (is_ready n) (take (w.i-is k) (w.nodes-is k) ++ rest)) (steps_from (map step_view ss))) ∙ more rest;
          })
      | prepare_kids-in_default w ↦ (
          let is : step_view s.result ≡ fresh_step (node_view w.in_default.field-0) = ap step_view w.in_default.is ∙ step_view-Fresh w.in_default.field-0 in
          let new = none_ready (λ ks ss. are_ready (map (is_ready n) ks) (steps_from (map step_view ss))) l.nodes ss l.i l.step-index s.result l.invariant.decides c.loop-step-test.true s.is
          (λ rest more. ap (λ z. are_ready (map (is_ready n) rest) (step z (steps_from (map step_view more)))) is) in
          record {
            same = ap (map node_view) w.nodes-is ∙ l.invariant.same;
            within = omega arith;
            decides = λ rest. (λ k. are_ready (map (is_ready n) (take (w.i-is k) (w.nodes-is k) ++ rest)) (steps_from (map step_view ss))) ∙ new rest;
          })
    ]

pub prepare_kids-returns-clause-ready : goal.prepare_kids-returns-clause-ready
prepare_kids-returns-clause-ready t c =
    let l = c.loop-step in
    all_steps (λ ks ss. are_ready (map (is_ready c.args.n) ks) (steps_from (map step_view ss))) l.nodes c.args.steps.now l.i l.step-index l.invariant.decides (omega arith) (λ rest. refl)

pub prepare_kids-loop-step-init : goal.prepare_kids-loop-step-init
prepare_kids-loop-step-init t c = grind (arith, common_steps)

pub prepare_kids-returns-clause-same : goal.prepare_kids-returns-clause-same
prepare_kids-returns-clause-same t c = grind (arith, common_steps)

pub prepare_kids-returns-then-i-nodes-clause-same : goal.prepare_kids-returns-then-i-nodes-clause-same
prepare_kids-returns-then-i-nodes-clause-same t c = grind (arith, common_steps)
