use Rattle.std.proofs.Common.{◌≡◌, map, drop}
use Rattle.std.specs.List.{list_any}
use Rattle.std.specs.Ordering.{is_eq}
use Rattle.key_spec.specs.Rules.{path_cmp}
use Rattle.key_spec.specs.RuleView.{rule_view, names_view}
use Rattle.key_spec.proofs.spec.is_context.Given as goal

-- what is left decides
abbrev pub invariant-loop-rule : goal.invariant-loop-rule
invariant-loop-rule l =
    list_any (λ r. is_eq (path_cmp r.context (names_view l.path))) (map rule_view l.rules)
    ≡ list_any (λ r. is_eq (path_cmp r.context (names_view l.path))) (map rule_view (drop l.rule-index l.rules))
