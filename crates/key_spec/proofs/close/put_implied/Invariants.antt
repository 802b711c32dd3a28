use Rattle.std.proofs.Common.{◌≡◌, drop, fold, map, flat_map}
use Rattle.std.specs.BTreeSet.{replace_key}
use Rattle.key_spec.specs.Data.{PlainPath}
use Rattle.key_spec.specs.Rules.{rule_cmp}
use Rattle.key_spec.specs.Closed.{implied_along, implied_by, target_of}
use Rattle.key_spec.specs.View.{rule_view, path_view, placed_rules}
use Rattle.key_spec.proofs.close.put_implied.Given as goal

abbrev pub invariant-loop-path : goal.invariant-loop-path
invariant-loop-path l = fold (replace_key rule_cmp) (placed_rules l.initial.closed) (implied_by (rule_view l.rule))
    ≡ fold (replace_key rule_cmp) (placed_rules l.closed) (flat_map (λ (path : PlainPath). implied_along (target_of (rule_view l.rule)) path.tags) (map path_view (drop l.path-index l.rule.paths.items)))
