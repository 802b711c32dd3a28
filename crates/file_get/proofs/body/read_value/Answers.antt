use Rattle.std.proofs.Common.{arith}
use Rattle.file_get.proofs.Bodies.{value-taken, whole-value, found-filled}
use Rattle.file_get.proofs.body.read_value.Goals as goal

pub returns-in-Ok-clause-told : goal.returns-in-Ok-clause-told
returns-in-Ok-clause-told g c = λ last bytes b tells within stands ends is. (
    let read = c.in-Ok.ensures.told last bytes tells (omega (arith, within, c.requires)) in
    let lent = c.as_slice.result.now in
    found-filled c.body_of.result c.ok_or.result _ b c.body_of.ensures (whole-value b lent (value-taken bytes _ _ c.args.at c.args.end b c.as_slice.ensures.value read stands ends) is) c.ok_or.ensures.value)

pub returns-in-Err-clause-told : goal.returns-in-Err-clause-told
returns-in-Err-clause-told g c = λ last bytes b tells within stands ends is. c.in-Err.ensures.told last bytes tells (omega (arith, within, c.requires))
