use Rattle.std.proofs.Common.{refl}
use Rattle.std.specs.Cow.{cow_str_bytes}
use Rattle.jsonml_text.proofs.Pushing.{ReadsAlone-text}
use Rattle.jsonml_text.proofs.straight.text_alone.Goals as goal

pub returns-then-is_sign : goal.returns-then-is_sign
returns-then-is_sign c =
    let begun = c.skip_blanks-begun in
    let next = c.skip_blanks in
    ReadsAlone-text c.args.text.now c.args.at begun.result (cow_str_bytes c.in_ok-held.held) c.in_ok-held.end next.result (c.if-not-is_sign.ensures refl) begun.ensures.same begun.ensures.later c.in_ok-held.ensures (c.if-is_sign.ensures refl) next.ensures.same
    next.ensures.later next.ensures.within
