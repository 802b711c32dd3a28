use Rattle.std.proofs.Common.{◌≡◌, map, take, string_bytes}
use Rattle.key_spec.specs.Canonical.{canonical}
use Rattle.key_spec.specs.RuleView.{rule_view}
use Rattle.key_spec.proofs.spec.canonical_text.Given as goal

abbrev pub invariant-loop-rule : goal.invariant-loop-rule
invariant-loop-rule l = string_bytes l.text ≡ canonical (map rule_view (take l.rule-index l.rules))
