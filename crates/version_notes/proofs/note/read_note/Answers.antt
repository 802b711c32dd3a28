use Rattle.std.proofs.Common.{◌+◌, ◌-◌, min, length, take, ◌∙◌, arith}
use Rattle.version_notes.specs.Reader.{file_of, left_of}
use Rattle.version_notes.proofs.Fronts.{pulled_both, note_told, size_stands}
use Rattle.version_notes.proofs.note.read_note.Goals as goal

pub returns-in-Ok-clause-pulls : goal.returns-in-Ok-clause-pulls
returns-in-Ok-clause-pulls g c =
    let place = c.args.place in
    pulled_both (min 1028 (place.end - place.at)) c.in-Ok.size (g.F.Folder.numbers c.args.folder.now) (g.F.Folder.numbers c.read_size.new.folder) (g.F.Folder.numbers c.read_text.new.folder)
    (omega (arith, c.in-Ok.ensures.within, c.in-Ok.ensures.short)) c.in-Ok.ensures.numbers c.read_text.ensures.pulls

pub returns-in-Ok-clause-told : goal.returns-in-Ok-clause-told
returns-in-Ok-clause-told g c = λ files told. (
    let place = c.args.place in
    let front = take place.end (file_of files c.args.name.now) in
    let size = c.in-Ok.ensures.told files told in
    let text = c.read_text.ensures.told files place.end (c.in-Ok.ensures.reads.same_files ∙ told) (omega (arith, c.in-Ok.ensures.within)) in
    note_told c.in-Ok.size place.at front c.read_text.result size.0 size.1 c.read_text.ensures.size c.read_text.ensures.note text)

pub returns-in-Ok-clause-only : goal.returns-in-Ok-clause-only
returns-in-Ok-clause-only g c = λ files note rest told stands. (
    let same = size_stands (left_of c.args.place (file_of files c.args.name.now)) c.in-Ok.size (note, rest) (c.in-Ok.ensures.told files told).0 stands in
    pulled_both (4 + length note) c.in-Ok.size (g.F.Folder.numbers c.args.folder.now) (g.F.Folder.numbers c.read_size.new.folder) (g.F.Folder.numbers c.read_text.new.folder)
    (omega (arith, same)) c.in-Ok.ensures.numbers c.read_text.ensures.pulls)
