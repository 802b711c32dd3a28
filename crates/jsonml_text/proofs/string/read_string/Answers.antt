use Rattle.std.proofs.lemmas.Grind.{common_steps}
use Rattle.std.proofs.Common.{◌≡◌, ◌+◌, ◌-◌, ◌<◌, List, ℕ, take, drop, get_or, length, take_all, length-drop, arith, rules, subst, ap, sym, ◌∙◌}
use Rattle.std.proofs.lemmas.Str.{IsCharBoundary-after_ascii, IsUtf8-string_bytes}
use Rattle.json.specs.Lex.{token}
use Rattle.json.specs.Print.{escape}
use Rattle.json.specs.Token.{string}
use Rattle.jsonml_text.specs.Straight.{HasLexeme}
use Rattle.jsonml_text.proofs.Lexing.{HasLexeme-plain}
use Rattle.jsonml_text.proofs.string.read_string.Goals as goal

pub range-requires-clause-start_boundary : goal.range-requires-clause-start_boundary
range-requires-clause-start_boundary c = λ some.
    let d = c.args.text.now in
    let same = c.as_bytes-bytes.ensures.value in
    let within : c.args.at < length d = subst (λ (l : List ℕ). c.args.at < length l) same c.if-at-bytes.false in
    let quote : get_or d c.args.at 0 ≡ 34 = sym (ap (λ (l : List ℕ). get_or l c.args.at 0) same) ∙ c.if-bytes-at-ne34.false in
    IsCharBoundary-after_ascii d c.args.at c.utf8.text within (omega arith)

pub returns-then-bytes-end-eq34-clause-lexeme : goal.returns-then-bytes-end-eq34-clause-lexeme
returns-then-bytes-end-eq34-clause-lexeme c =
    let b = c.as_bytes-bytes.result.now in
    let d = c.args.text.now in
    let n = c.plain_run.result in
    let same = c.as_bytes-bytes.ensures.value in
    let whole : take (length b - (c.args.at + 1)) (drop (c.args.at + 1) b) ≡ drop (c.args.at + 1) b = take_all _ (drop (c.args.at + 1) b) (omega (arith, length-drop (c.args.at + 1) b)) in
    let plain : escape (take n (drop (c.args.at + 1) b)) ≡ take n (drop (c.args.at + 1) b) = subst (λ (l : List ℕ). escape (take n l) ≡ take n l) whole c.plain_run.ensures.plain in
    let here = HasLexeme-plain b c.args.at n c.if-end-bytes.true c.if-bytes-at-ne34.false plain c.if-bytes-end-eq34.true in
    let part : take n (drop (c.args.at + 1) b) ≡ c.range.result.now = search rules in
    subst (λ (l : List ℕ). HasLexeme l c.args.at (token (string c.range.result.now)) (c.args.at + 1 + n + 1)) same
    (subst (λ (s : List ℕ). HasLexeme b c.args.at (token (string s)) (c.args.at + 1 + n + 1)) part here)

pub returns-clause-utf8 : goal.returns-clause-utf8
returns-clause-utf8 c = IsUtf8-string_bytes c.in_ok-string.string

pub returns-clause-lexeme : goal.returns-clause-lexeme
returns-clause-lexeme c = grind (arith, common_steps)

pub returns-then-at-bytes-clause-lexeme : goal.returns-then-at-bytes-clause-lexeme
returns-then-at-bytes-clause-lexeme c = grind (arith, common_steps)

pub returns-then-at-bytes-clause-utf8 : goal.returns-then-at-bytes-clause-utf8
returns-then-at-bytes-clause-utf8 c = grind (arith, common_steps)

pub returns-then-bytes-end-eq34-clause-utf8 : goal.returns-then-bytes-end-eq34-clause-utf8
returns-then-bytes-end-eq34-clause-utf8 c = grind (arith, common_steps)
