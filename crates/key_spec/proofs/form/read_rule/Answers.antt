use Rattle.std.proofs.Common.{◌≡◌, sym, ◌∙◌, ap, subst, true, false, IfOk, Option, None, option_map}
use Rattle.std.proofs.lemmas.Bool.{cond-true, cond-false, false_from_ne_true}
use Rattle.std.proofs.lemmas.Str.{IsUtf8-from_is_utf8, is_utf8-from_IsUtf8}
use Rattle.std.specs.Str.{is_utf8}
use Rattle.key_spec.specs.Form.{tokens, spelled, line_rule}
use Rattle.key_spec.specs.Data.{PlainRule}
use Rattle.key_spec.specs.View.{rule_view}
use Rattle.key_spec.proofs.form.read_rule.Goals as goal

pub returns-in-Err : goal.returns-in-Err
unfolding line_rule
returns-in-Err c =
    let no : is_utf8 c.args.line.now ≡ false = false_from_ne_true _ (λ yes. c.in-Err.ensures.cases.0 (IsUtf8-from_is_utf8 c.args.line.now yes)) in
    sym (cond-false (is_utf8 c.args.line.now) _ _ no)

pub returns-in-Ok : goal.returns-in-Ok
unfolding line_rule
returns-in-Ok c =
    let line = c.args.line.now in
    let yes : is_utf8 line ≡ true = is_utf8-from_IsUtf8 line c.in-Ok.ensures.cases.1 in
    let read : line_rule line ≡ spelled (tokens line) = cond-true (is_utf8 line) (spelled (tokens line)) None yes in
    subst (λ (r : Option PlainRule). IfOk c.read_text.result (λ rule. option_map rule_view rule ≡ r)) (ap (λ bs. spelled (tokens bs)) c.in-Ok.ensures.cases.0 ∙ sym read) c.read_text.ensures
