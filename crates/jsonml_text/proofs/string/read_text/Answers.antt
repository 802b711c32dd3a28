use Rattle.std.proofs.Common.{refl}
use Rattle.jsonml_text.proofs.Straightness.{HasString-lexeme}
use Rattle.jsonml_text.proofs.string.read_text.Goals as goal

pub returns-then-ends_value : goal.returns-then-ends_value
returns-then-ends_value c =
    let next = c.skip_blanks-next in
    HasString-lexeme c.args.text.now c.args.at _ c.in_ok-string.end next.result c.in_ok-string.ensures.lexeme next.ensures.same next.ensures.later next.ensures.within (c.if-ends_value.ensures refl) c.in_ok-string.ensures.utf8
