use Rattle.std.proofs.Common.{◌≡◌, drop, fold}
use Rattle.std.specs.BTreeSet.{replace_key}
use Rattle.key_spec.specs.Rules.{rule_cmp}
use Rattle.key_spec.specs.Closed.{implied_rules}
use Rattle.key_spec.specs.View.{rules_view, placed_rules}
use Rattle.key_spec.proofs.close.put_all_implied.Given as goal

abbrev pub invariant-loop-one : goal.invariant-loop-one
invariant-loop-one l = fold (replace_key rule_cmp) (placed_rules l.initial.closed) (implied_rules (rules_view l.given)) ≡ fold (replace_key rule_cmp) (placed_rules l.closed) (implied_rules (rules_view (drop l.one-index l.given)))
