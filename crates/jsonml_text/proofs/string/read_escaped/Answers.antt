use Rattle.std.proofs.Common.{◌≡◌, ◌+◌, ◌-◌, ◌∷◌, take, drop, string_bytes, arith, rules, subst, ap, sym, ◌∙◌}
use Rattle.std.specs.Str.{IsCharBoundary}
use Rattle.std.proofs.lemmas.Str.{IsCharBoundary-after_ascii}
use Rattle.json.specs.Lex.{token, tokens}
use Rattle.json.specs.Token.{string}
use Rattle.jsonml_text.specs.Straight.{HasLexeme}
use Rattle.jsonml_text.proofs.Contained.{HasLexeme-string}
use Rattle.jsonml_text.proofs.string.read_escaped.Goals as goal

pub range-requires-clause-end_boundary : goal.range-requires-clause-end_boundary
range-requires-clause-end_boundary c =
    let d = c.args.text.now in
    let end = c.in_ok-end.end in
    let bounds = c.in_ok-end.ensures.bounds in
    let back : end - 1 + 1 ≡ end = omega (arith, bounds.0) in
    subst (IsCharBoundary d) back (IsCharBoundary-after_ascii d (end - 1) c.utf8.text (omega (arith, bounds.0, bounds.1)) (omega (arith, c.in_ok-end.ensures.quote)))

pub returns-in_ok-ok-in-Some-String : goal.returns-in_ok-ok-in-Some-String
returns-in_ok-ok-in-Some-String c =
    let d = c.args.text.now in
    let end = c.in_ok-end.end in
    let s = c.in-Some-String.string.now in
    let bounds = c.in_ok-end.ensures.bounds in
    let part : c.range.result.now ≡ take (end - c.args.at) (drop c.args.at d) = c.range.ensures.value in
    let read : tokens c.range.result.now ≡ string s ∷ c.next.new.self = search rules in
    let copied : s ≡ string_bytes c.in_ok-ok-in-Some-String.field-0 = search rules in
    subst (λ x. HasLexeme d c.args.at (token (string x)) end) copied
    (HasLexeme-string d c.args.at end s c.next.new.self c.requires.within c.requires.quote bounds.0 bounds.1 c.in_ok-end.ensures.passed (ap tokens (sym part) ∙ read))
