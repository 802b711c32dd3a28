use Rattle.std.proofs.Common.{refl}
use Rattle.std.specs.Cow.{cow_str_bytes}
use Rattle.jsonml_tree.specs.Data.{string}
use Rattle.jsonml_tree.specs.LentAttrs.{lent_scalar_view}
use Rattle.jsonml_text.proofs.Words.{HasScalar-string, ReadsMember-parts}
use Rattle.jsonml_text.proofs.object.read_attribute.Goals as goal

pub returns-in-Some : goal.returns-in-Some
returns-in-Some c =
    let d = c.args.text.now in
    let begun = c.in_ok-name.begun in
    let value = cow_str_bytes c.in-Some.value in
    ReadsMember-parts d c.args.at (cow_str_bytes c.in_ok-name.name) begun (string value) c.in-Some.next _ c.in_ok-attr_of_text.ensures c.in_ok-name.ensures (HasScalar-string d begun value c.in-Some.next c.in-Some.ensures) refl

pub returns : goal.returns
returns c =
    let value = c.in_ok-value in
    ReadsMember-parts c.args.text.now c.args.at (cow_str_bytes c.in_ok-name.name) c.in_ok-name.begun (lent_scalar_view value.value) value.next _ c.in_ok-attr_of.ensures c.in_ok-name.ensures value.ensures.scalar value.ensures.in_range
