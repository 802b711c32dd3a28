use Rattle.std.proofs.Common.{◌≡◌, ◌∷◌, [], List, ℕ, map, flat_map, take, get_or, string_bytes, subst, ◌∙◌, arith}
use Rattle.std.proofs.lemmas.List.{take_all}
use Rattle.key_spec.specs.Data.{PlainPath}
use Rattle.key_spec.specs.Texts.{Adds, end_text, target_text, texts_along}
use Rattle.key_spec.specs.View.{path_view, rule_view}
use Rattle.key_spec.specs.declared.rule.KeyPath.{KeyPath}
use Rattle.key_spec.proofs.MarkLemmas.{Adds-more}
use Rattle.key_spec.proofs.TextLemmas.{Adds-none, Adds-append}
use Rattle.key_spec.proofs.closing.add_marks.Goals as goal

pub loop-path-init : goal.loop-path-init
loop-path-init c = record { given = Adds-none _; implied = Adds-none _; ends = Adds-none _ }

pub loop-path-preserved : goal.loop-path-preserved
loop-path-preserved c =
    let target : List ℕ = target_text (rule_view c.args.rule.now) in
    let along : PlainPath → List (List ℕ) = λ p. texts_along target p.tags in
    let paths = c.args.rule.now.paths.items in
    let i = c.loop-path.path-index in
    let item = c.path-item.result in
    let is : item ≡ get_or paths i item = subst (λ (ps : List KeyPath). item ≡ get_or ps i item) c.deref-path-items.ensures.value c.path-item.is in
    let before = c.args.marks.now in
    let old = c.loop-path.marks in
    let new = c.add_way.new.marks in
    let first : c.as_str.result.now ≡ target = c.as_str.ensures.value ∙ c.in_ok-target.ensures in
    let way = c.in_ok-add_way.ensures in
    let implied = subst (λ t. Adds old.implied new.implied (texts_along t (path_view item).tags)) first way.implied in
    let ends = subst (λ t. Adds old.ends new.ends (end_text t (path_view item))) first way.ends in
    record {
      given = Adds-append before.given old.given new.given [] [] c.loop-path.invariant.given way.given;
      implied = Adds-more along path_view paths i item before.implied old.implied new.implied (omega arith) is c.loop-path.invariant.implied implied;
      ends = Adds-more (end_text target) path_view paths i item before.ends old.ends new.ends (omega arith) is c.loop-path.invariant.ends ends;
    }

pub returns : goal.returns
returns c =
    let target : List ℕ = target_text (rule_view c.args.rule.now) in
    let along : PlainPath → List (List ℕ) = λ p. texts_along target p.tags in
    let paths = c.args.rule.now.paths.items in
    let old = c.args.marks.now in
    let new = c.loop-path.marks in
    let whole : take c.loop-path.path-index paths ≡ paths = take_all c.loop-path.path-index paths (omega arith) in
    record {
      given = subst (λ t. Adds old.given c.add_text.new.texts (t ∷ [])) c.in_ok-target.ensures
          (Adds-append old.given new.given c.add_text.new.texts [] (string_bytes c.in_ok-target.target ∷ []) c.loop-path.invariant.given c.in_ok-add_text.ensures.added);
      implied = subst (λ (ps : List KeyPath). Adds old.implied new.implied (flat_map along (map path_view ps))) whole c.loop-path.invariant.implied;
      ends = subst (λ (ps : List KeyPath). Adds old.ends new.ends (flat_map (end_text target) (map path_view ps))) whole c.loop-path.invariant.ends;
    }
