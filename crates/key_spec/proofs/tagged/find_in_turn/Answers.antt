use Rattle.std.proofs.Common.{◌≡◌, true, ap, sym, ◌∙◌}
use Rattle.std.specs.Str.{bytes_eq}
use Rattle.key_spec.specs.RuleView.{rule_view}
use Rattle.key_spec.specs.declared.rule.Rule.{Rule}
use Rattle.key_spec.proofs.StretchLaws.{first-tagged}
use Rattle.key_spec.proofs.tagged.find_in_turn.Goals as goal

pub returns-then-eq-clause-rule : goal.returns-then-eq-clause-rule
returns-then-eq-clause-rule c =
    let t = c.args.tag.now in
    let same : bytes_eq (rule_view c.index-rules-at.result).tag t ≡ true =
    ap (λ (r : Rule). bytes_eq (rule_view r).tag t) c.index-rules-at.is ∙ (ap (λ s. bytes_eq s t) (sym c.as_str.ensures.value) ∙ sym c.eq.ensures ∙ c.if-eq.true) in
    first-tagged rule_view c.args.rules.now c.loop-at.at c.index-rules-at.result t c.loop-at-test.true c.index-rules-at.is same c.loop-at.invariant
