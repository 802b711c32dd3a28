use Rattle.std.proofs.Common.{◌≡◌, map, drop}
use Rattle.std.specs.BTreeSet.{contains_text}
use Rattle.std.specs.List.{list_any}
use Rattle.key_spec.specs.Data.{PlainPath}
use Rattle.key_spec.specs.Texts.{contexts_along, target_text}
use Rattle.key_spec.specs.View.{path_view, rule_view}
use Rattle.key_spec.proofs.closing.passes_end.Given as goal

abbrev pub invariant-loop-path : goal.invariant-loop-path
invariant-loop-path l = list_any (λ (path : PlainPath). list_any (contains_text l.ends) (contexts_along (target_text (rule_view l.rule)) path.tags)) (map path_view l.rule.paths.items)
    ≡ list_any (λ (path : PlainPath). list_any (contains_text l.ends) (contexts_along (target_text (rule_view l.rule)) path.tags)) (map path_view (drop l.path-index l.rule.paths.items))
