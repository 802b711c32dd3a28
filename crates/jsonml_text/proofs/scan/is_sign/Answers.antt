use Rattle.std.proofs.Common.{◌+◌, List, ℕ, subst}
use Rattle.std.proofs.lemmas.Bool.{eqb-true}
use Rattle.json.specs.Lex.{operator_lexeme}
use Rattle.jsonml_text.specs.Straight.{HasLexeme}
use Rattle.jsonml_text.proofs.Lexing.{HasLexeme-sign}
use Rattle.jsonml_text.proofs.scan.is_sign.Goals as goal

pub returns-then-at-bytes : goal.returns-then-at-bytes
returns-then-at-bytes c = λ h.
    subst (λ (d : List ℕ). HasLexeme d c.args.at (operator_lexeme c.args.sign) (c.args.at + 1)) c.as_bytes-bytes.ensures.value
    (HasLexeme-sign c.as_bytes-bytes.result.now c.args.at c.args.sign c.if-at-bytes.true (eqb-true _ _ h) c.requires)
