use Rattle.std.proofs.Common.{◌≡◌, [], ◌∷◌, map, take}
use Rattle.key_spec.specs.Closed.{target_of}
use Rattle.key_spec.specs.RuleView.{rule_view}
use Rattle.key_spec.specs.StretchView.{start_of, end_of}
use Rattle.key_spec.specs.Stretches.{count_before, count_up_to}
use Rattle.key_spec.specs.declared.rule.Rule.{Rule}
use Rattle.key_spec.proofs.stretch.stretches.Given as goal

-- those of `/` and of the targets so far
abbrev pub invariant-loop-rule : goal.invariant-loop-rule
invariant-loop-rule l =
    (map start_of l.all.items ≡ count_before (map rule_view l.rules) [] ∷ map (λ (r : Rule). count_before (map rule_view l.rules) (target_of (rule_view r))) (take l.rule-index l.rules))
    × (map end_of l.all.items ≡ count_up_to (map rule_view l.rules) [] ∷ map (λ (r : Rule). count_up_to (map rule_view l.rules) (target_of (rule_view r))) (take l.rule-index l.rules))
