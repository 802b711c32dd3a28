use Rattle.std.proofs.Common.{arith}
use Rattle.version_notes.specs.Reader.{file_of, left_of}
use Rattle.version_notes.proofs.Fronts.{left_within, too_few, no_size}
use Rattle.version_notes.proofs.note.read_size.Goals as goal

pub returns-then-place-lt-SIZE-clause-told : goal.returns-then-place-lt-SIZE-clause-told
returns-then-place-lt-SIZE-clause-told g c = λ files told. (
    let within = left_within c.args.place (file_of files c.args.name.now) in
    too_few (left_of c.args.place (file_of files c.args.name.now)) (omega (arith, within, c.if-place-lt-SIZE.true)))

pub returns-in-Err-clause-told : goal.returns-in-Err-clause-told
returns-in-Err-clause-told g c = λ files told. no_size (left_of c.args.place (file_of files c.args.name.now)) c.in-Err.fault (c.in-Err.ensures.told files c.args.place.end told (omega (arith, c.if-place-lt-SIZE.false)))
