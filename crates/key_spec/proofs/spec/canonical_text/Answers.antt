use Rattle.std.proofs.lemmas.Grind.{common_steps}
use Rattle.std.proofs.Common.{◌++◌, [], ◌∷◌, ap, sym, ◌∙◌, append_assoc, arith}
use Rattle.key_spec.specs.Canonical.{canonical, rule_text}
use Rattle.key_spec.specs.RuleView.{rule_view}
use Rattle.key_spec.proofs.Steps.{flat_map-take}
use Rattle.key_spec.proofs.spec.canonical_text.Goals as goal

pub loop-rule-preserved : goal.loop-rule-preserved
unfolding canonical
loop-rule-preserved c =
    let rule = rule_view c.rule-item.result in
    c.in_ok-push_str.ensures.bytes ∙ ap (λ t. t ++ 10 ∷ []) (c.in_ok-push_rule.ensures ∙ ap (λ t. t ++ rule_text rule) c.loop-rule.invariant) ∙ append_assoc _ (rule_text rule) (10 ∷ [])
    ∙ sym (flat_map-take (λ r. rule_text r ++ 10 ∷ []) rule_view c.args.rules.now c.loop-rule.rule-index c.rule-item.result (omega arith) c.rule-item.is)

pub returns : goal.returns
returns c = grind (arith, common_steps)
