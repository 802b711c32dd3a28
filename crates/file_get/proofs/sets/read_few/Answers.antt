use Rattle.std.proofs.Common.{refl}
use Rattle.file_get.proofs.Bodies.{pairs-taken}
use Rattle.file_get.proofs.sets.read_few.Goals as goal

pub returns-in-Ok-clause-told : goal.returns-in-Ok-clause-told
returns-in-Ok-clause-told g c = λ last bytes s tells fits stands long is. (
    let read = c.in-Ok.ensures.told last bytes tells fits in
    c.is_among.ensures.told s (pairs-taken bytes _ _ c.args.at c.args.count s refl read stands long) long is)

pub returns-in-Err-clause-told : goal.returns-in-Err-clause-told
returns-in-Err-clause-told g c = λ last bytes s tells fits stands long is. c.in-Err.ensures.told last bytes tells fits
