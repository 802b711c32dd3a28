use Rattle.std.proofs.Common.{◌+◌, refl}
use Rattle.jsonml_text.proofs.Straightness.{HasKey-lexemes}
use Rattle.jsonml_text.proofs.string.read_key.Goals as goal

pub returns-then-is_sign : goal.returns-then-is_sign
returns-then-is_sign c =
    let colon = c.skip_blanks-colon in
    let next = c.skip_blanks in
    HasKey-lexemes c.args.text.now c.args.at _ c.in_ok-string.end colon.result (colon.result + 1) next.result c.in_ok-string.ensures.lexeme colon.ensures.same (c.if-is_sign.ensures refl) next.ensures.same colon.ensures.later next.ensures.later next.ensures.within c.in_ok-string.ensures.utf8
