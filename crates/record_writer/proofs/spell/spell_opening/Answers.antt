use Rattle.std.proofs.Common.{◌≡◌, false}
use Rattle.record_parts.specs.Checks.{label_fits}
use Rattle.record_writer.specs.Given.{given_label}
use Rattle.record_writer.proofs.GivenLaws.{fits-where, fits-not}
use Rattle.record_writer.proofs.spell.spell_opening.Goals as goal

pub returns-in-Ok : goal.returns-in-Ok
returns-in-Ok c =
    let k = given_label c.args.label.now in
    let law = c.parts_are_of_shape_and_fit.ensures in
    (fits-where (label_fits k) (law.label_tests k) (law.labels k) c.in-Ok.ensures.0, c.in-Ok.ensures.1)

pub returns-in-Err-TooLong : goal.returns-in-Err-TooLong
returns-in-Err-TooLong c =
    let k = given_label c.args.label.now in
    let law = c.parts_are_of_shape_and_fit.ensures in
    let wrong : label_fits k ≡ false = rw c.in-Err-TooLong.field-0-is at c.in-Err-TooLong.ensures in
    λ fits. fits-not (label_fits k) (law.label_tests k) (law.labels k) c.is_label_shaped.ensures wrong fits
