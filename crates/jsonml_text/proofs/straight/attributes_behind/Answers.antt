use Rattle.std.proofs.Common.{map, refl, ap}
use Rattle.jsonml_tree.specs.LentAttrs.{lent_attr_view}
use Rattle.jsonml_text.proofs.Pushing.{ReadsFront-attrs, ReadsFront-none}
use Rattle.jsonml_text.proofs.straight.attributes_behind.Goals as goal

pub returns-then-is_sign-2 : goal.returns-then-is_sign-2
returns-then-is_sign-2 c =
    let begun = c.skip_blanks-begun in
    let next = c.skip_blanks in
    let attrs = c.in_ok-attrs in
    ReadsFront-attrs c.args.text.now c.args.at begun.result (map lent_attr_view attrs.attrs.items) attrs.end next.result (c.if-is_sign.ensures refl) begun.ensures.same begun.ensures.later attrs.ensures next.ensures.same next.ensures.later

pub returns : goal.returns
returns c = ReadsFront-none c.args.text.now c.args.at (map lent_attr_view c.new.result.items) (ap (map lent_attr_view) c.new.ensures.items)
