use Rattle.std.proofs.Common.{◌≡◌, fold}
use Rattle.std.specs.BTreeSet.{replace_key}
use Rattle.key_spec.specs.Rules.{rule_cmp}
use Rattle.key_spec.specs.View.{rules_view, placed_rules}
use Rattle.key_spec.proofs.close.put_given.Given as goal

abbrev pub invariant-loop-one : goal.invariant-loop-one
invariant-loop-one l = placed_rules l.closed ≡ fold (replace_key rule_cmp) (placed_rules l.initial.closed) (rules_view l.yielded)
