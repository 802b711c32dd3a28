use Rattle.std.proofs.Common.{[], map, flat_map, take}
use Rattle.key_spec.specs.Data.{PlainPath}
use Rattle.key_spec.specs.Marks.{AddMarks}
use Rattle.key_spec.specs.Texts.{end_text, target_text, texts_along}
use Rattle.key_spec.specs.View.{path_view, rule_view}
use Rattle.key_spec.proofs.closing.add_marks.Given as goal

abbrev pub invariant-loop-path : goal.invariant-loop-path
invariant-loop-path l =
    AddMarks l.initial.marks l.marks []
    (flat_map (λ (path : PlainPath). texts_along (target_text (rule_view l.rule)) path.tags) (map path_view (take l.path-index l.rule.paths.items)))
    (flat_map (end_text (target_text (rule_view l.rule))) (map path_view (take l.path-index l.rule.paths.items)))
