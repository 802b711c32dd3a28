use Rattle.std.proofs.Common.{◌≡◌, map, drop}
use Rattle.key_spec.specs.Rules.{rule_of}
use Rattle.key_spec.specs.RuleView.{rule_view, names_view}
use Rattle.key_spec.proofs.spec.Spec.rule_in_turn.Given as goal

-- what is left decides
abbrev pub invariant-loop-rule : goal.invariant-loop-rule
invariant-loop-rule l =
    rule_of (map rule_view l.self.rules.items) (names_view l.context) l.tag
    ≡ rule_of (map rule_view (drop l.rule-index l.self.rules.items)) (names_view l.context) l.tag
