use Rattle.std.proofs.Common.{◌≡◌, map, drop}
use Rattle.key_spec.specs.Rules.{tagged}
use Rattle.key_spec.specs.RuleView.{rule_view}
use Rattle.key_spec.proofs.tagged.find_in_turn.Given as goal

-- what is left decides
abbrev pub invariant-loop-at : goal.invariant-loop-at
invariant-loop-at l = tagged (map rule_view l.rules) l.tag ≡ tagged (map rule_view (drop l.at l.rules)) l.tag
