use Rattle.std.proofs.Common.{◌≡◌, ◌+◌, [], ◌∷◌, map, ◌∙◌, arith}
use Rattle.std.proofs.lemmas.Grind.{common_steps}
use Rattle.keyed_tree.specs.View.{keyed_view}
use Rattle.archive_tree.specs.View.{node_view, nodes_view}
use Rattle.version_set.specs.Members.{upto_pairs}
use Rattle.nested_merge.specs.Plan.{steps_list, planned_row}
use Rattle.nested_merge.specs.PlanView.{step_view}
use Rattle.nested_merge.proofs.PlannedVersion.{plan_roomy, plan_made}
use Rattle.nested_merge.proofs.version.grown_kids.Goals as goal

pub applied_kids-requires-clause-roomy : goal.applied_kids-requires-clause-roomy
applied_kids-requires-clause-roomy c =
    let n = c.args.n in
    let k = keyed_view c.args.new.now in
    let ss = map step_view c.in-Ok.plan.steps.items in
    let planned : ss ≡ steps_list (planned_row (n + 1) (upto_pairs n) (nodes_view c.args.old.items) (k ∷ [])) = c.in-Ok.ensures.steps ∙ (λ i. steps_list (planned_row (n + 1) (upto_pairs n) (nodes_view (c.deref.ensures.value i)) (k ∷ []))) in
    plan_roomy n (nodes_view c.args.old.items) k ss planned

pub returns-in-Ok-prepare_kids-clause-grown : goal.returns-in-Ok-prepare_kids-clause-grown
returns-in-Ok-prepare_kids-clause-grown c =
    let n = c.args.n in
    let k = keyed_view c.args.new.now in
    let ss = map step_view c.in-Ok.plan.steps.items in
    let planned : ss ≡ steps_list (planned_row (n + 1) (upto_pairs n) (nodes_view c.args.old.items) (k ∷ [])) = c.in-Ok.ensures.steps ∙ (λ i. steps_list (planned_row (n + 1) (upto_pairs n) (nodes_view (c.deref.ensures.value i)) (k ∷ []))) in
    plan_made n (nodes_view c.args.old.items) k ss planned _ (map node_view c.applied_kids.result.items) (grind (arith, common_steps)) c.applied_kids.ensures

pub returns-in-Err-clause-grown : goal.returns-in-Err-clause-grown
returns-in-Err-clause-grown c = grind (arith, common_steps)

pub returns-in-Err-clause-refused : goal.returns-in-Err-clause-refused
returns-in-Err-clause-refused c = grind (arith, common_steps)

pub returns-in-Err-prepare_kids-clause-grown : goal.returns-in-Err-prepare_kids-clause-grown
returns-in-Err-prepare_kids-clause-grown c = grind (arith, common_steps)

pub returns-in-Err-prepare_kids-clause-refused : goal.returns-in-Err-prepare_kids-clause-refused
returns-in-Err-prepare_kids-clause-refused c = grind (arith, common_steps)

pub returns-in-Ok-prepare_kids-clause-refused : goal.returns-in-Ok-prepare_kids-clause-refused
returns-in-Ok-prepare_kids-clause-refused c = grind (arith, common_steps)
