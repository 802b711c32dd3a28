use Rattle.std.proofs.lemmas.Grind.{common_steps}
use Rattle.std.proofs.Common.{◌≡◌, ◌<◌, ◌≤◌, length, get_or, sym, ap, subst, ◌∙◌, arith}
use Rattle.std.proofs.lemmas.List.{length-map}
use Rattle.key_spec.specs.RuleView.{rule_view}
use Rattle.key_spec.specs.declared.rule.Rule.{Rule}
use Rattle.key_spec.proofs.FewPaths.{kept-few}
use Rattle.key_spec.proofs.spec.Spec.rule_in_turn.Goals as goal

pub returns-then-stands_at-clause-few_paths : goal.returns-then-stands_at-clause-few_paths
returns-then-stands_at-clause-few_paths c =
    let items = c.args.self.now.rules.items in
    let i = c.loop-rule.rule-index in
    let lent = c.deref-rule-items in
    let within : i < length items = subst (λ xs. i < length xs) lent.ensures.value (omega arith) in
    let few = kept-few rule_view items i c.rule-item.result c.args.self.now.closed within in
    let here : c.rule-item.result ≡ get_or items i c.rule-item.result = c.rule-item.is ∙ ap (λ xs. get_or xs i c.rule-item.result) lent.ensures.value in
    let short : length c.rule-item.result.paths.items ≤ 16 = simp length-map at (subst (λ (r : Rule). length (rule_view r).paths ≤ 16) (sym here) few) in
    omega (arith, c.rule-item.result.paths.ok.0)

pub loop-rule-preserved : goal.loop-rule-preserved
loop-rule-preserved c = grind (arith, common_steps)
