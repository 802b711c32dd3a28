-- What the plan of a version makes is the row with that version.
use Rattle.std.proofs.Common.{◌≡◌, ℕ, ◌+◌, IsTrue, List, [], ◌∷◌, ap, sym, subst, ◌∙◌}
use Rattle.keyed_tree.specs.Data.{PlainKeyed}
use Rattle.archive_tree.specs.Data.{PlainNode, PlainNodes, nodes_from, nodes_list}
use Rattle.archive_tree.proofs.Parts.{nodes_from-nodes_list}
use Rattle.version_set.specs.Members.{upto_pairs}
use Rattle.nested_merge.specs.Merged.{merged_row}
use Rattle.nested_merge.specs.Plan.{PlainStep, are_roomy, applied_row, steps_from, steps_list, planned_row}
use Rattle.nested_merge.proofs.PlanLaws.{applied_row-planned, row_roomy}
use Rattle.nested_merge.proofs.Plans.{steps_from-steps_list}

module _ (n : ℕ) (ks : PlainNodes) (k : PlainKeyed) (ss : List PlainStep) (planned : ss ≡ steps_list (planned_row (n + 1) (upto_pairs n) ks (k ∷ []))) where
  steps : steps_from ss ≡ planned_row (n + 1) (upto_pairs n) ks (k ∷ [])
  steps = ap steps_from planned ∙ steps_from-steps_list (planned_row (n + 1) (upto_pairs n) ks (k ∷ []))

  -- there is room along all of the steps
  pub plan_roomy : IsTrue (are_roomy (steps_from ss))
  plan_roomy = subst (λ z. IsTrue (are_roomy z)) (sym steps) (row_roomy (n + 1) (upto_pairs n) ks (k ∷ []))

  pub plan_made : (os : PlainNodes) (js : List PlainNode) → os ≡ ks → js ≡ nodes_list (applied_row (n + 1) os (steps_from ss)) → nodes_from js ≡ merged_row (n + 1) (upto_pairs n) ks (k ∷ [])
  plan_made os js row made =
      ap nodes_from (made ∙ (λ i. nodes_list (applied_row (n + 1) (row i) (steps i)))) ∙ nodes_from-nodes_list (applied_row (n + 1) ks (planned_row (n + 1) (upto_pairs n) ks (k ∷ [])))
      ∙ applied_row-planned (n + 1) (upto_pairs n) ks (k ∷ [])
