use Rattle.std.proofs.Common.{◌≡◌, false}
use Rattle.record_parts.specs.Checks.{value_fits}
use Rattle.record_writer.specs.Given.{given_body}
use Rattle.record_writer.proofs.GivenLaws.{fits-where, fits-not}
use Rattle.record_writer.proofs.spell.spell_alternative.Goals as goal

pub returns-in-Ok : goal.returns-in-Ok
returns-in-Ok c =
    let k = given_body c.args.body.now in
    let law = c.parts_are_of_shape_and_fit.ensures in
    (fits-where (value_fits k) (law.value_tests k) (law.values k) c.in-Ok.ensures.0, c.in-Ok.ensures.1)

pub returns-in-Err-TooLong : goal.returns-in-Err-TooLong
returns-in-Err-TooLong c =
    let k = given_body c.args.body.now in
    let law = c.parts_are_of_shape_and_fit.ensures in
    let wrong : value_fits k ≡ false = rw c.in-Err-TooLong.field-0-is at c.in-Err-TooLong.ensures in
    λ fits. fits-not (value_fits k) (law.value_tests k) (law.values k) c.is_body_shaped.ensures wrong fits
