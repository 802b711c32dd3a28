use Rattle.std.proofs.Common.{map, refl, ap}
use Rattle.jsonml_tree.specs.LentAttrs.{lent_attr_view}
use Rattle.jsonml_text.specs.Straight.{placed}
use Rattle.jsonml_text.proofs.Members.{HasPut-first, HasPut-more, ReadsObject-end, ReadsObject-none}
use Rattle.jsonml_text.proofs.object.read_members.Goals as goal

pub returns-then-is_sign : goal.returns-then-is_sign
returns-then-is_sign c =
    let begun = c.skip_blanks-begun in
    ReadsObject-none c.args.text.now c.args.at begun.result (placed (map lent_attr_view c.args.attrs.now.items)) c.requires.begun begun.ensures.same begun.ensures.later (c.if-is_sign.ensures refl) (ap (λ l. placed (map lent_attr_view l)) c.requires.empty)

pub members-init : goal.members-init
members-init c =
    let begun = c.skip_blanks-begun in
    HasPut-first c.args.text.now c.args.at begun.result (placed (map lent_attr_view c.args.attrs.now.items)) _ c.in_ok-end.end c.requires.begun begun.ensures.same begun.ensures.later (ap (λ l. placed (map lent_attr_view l)) c.requires.empty) c.in_ok-end.ensures

pub members-preserved : goal.members-preserved
members-preserved c =
    let mid = c.skip_blanks in
    HasPut-more c.args.text.now c.args.at _ _ c.members.end mid.result c.in_ok-end-2.end c.members.invariant (c.members-test.ensures refl) mid.ensures.same mid.ensures.later c.in_ok-end-2.ensures

pub returns-then-is_sign-2 : goal.returns-then-is_sign-2
returns-then-is_sign-2 c = ReadsObject-end c.args.text.now c.args.at _ c.members.end c.members.invariant (c.if-is_sign-2.ensures refl)
