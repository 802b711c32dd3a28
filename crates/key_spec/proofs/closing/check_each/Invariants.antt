use Rattle.std.proofs.Common.{◌≡◌, [], map, take, drop}
use Rattle.key_spec.specs.Closed.{closing_fault}
use Rattle.key_spec.specs.Texts.{Holds, target_text}
use Rattle.key_spec.specs.View.{rules_view, given_view}
use Rattle.key_spec.proofs.closing.check_each.Given as goal

-- what is left decides, and the texts are those of the earlier targets
abbrev pub invariant-loop-one : goal.invariant-loop-one
invariant-loop-one l = record {
  left : closing_fault (rules_view l.given) [] (map given_view l.given) ≡ closing_fault (rules_view l.given) (rules_view (take l.one-index l.given)) (map given_view (drop l.one-index l.given));
  texts : Holds l.earlier (map target_text (rules_view (take l.one-index l.given)));
}
