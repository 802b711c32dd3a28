use Rattle.std.proofs.Common.{◌≡◌, drop, fold, string_bytes}
use Rattle.std.specs.BTreeSet.{replace_key}
use Rattle.key_spec.specs.Rules.{rule_cmp, below}
use Rattle.key_spec.specs.Closed.{implied_along}
use Rattle.key_spec.specs.View.{names_view, placed_rules}
use Rattle.key_spec.proofs.close.put_along.Given as goal

abbrev pub invariant-loop-tag : goal.invariant-loop-tag
invariant-loop-tag l = fold (replace_key rule_cmp) (placed_rules l.initial.closed) (implied_along (below (names_view l.from.context.items) (string_bytes l.from.tag)) (names_view l.tags))
    ≡ fold (replace_key rule_cmp) (placed_rules l.closed) (implied_along (names_view l.here.items) (names_view (drop l.tag-index l.tags)))
