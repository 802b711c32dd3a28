use Rattle.std.proofs.Common.{map}
use Rattle.std.specs.Prelude.{string_bytes}
use Rattle.version_notes.proofs.Walks.{Walked}
use Rattle.version_notes.proofs.walk.read_notes.Given as goal

abbrev pub invariant-loop-notes : goal.invariant-loop-notes
invariant-loop-notes g l = (
    let f = g.F.Folder in
    Walked f.files f.draft f.numbers f.faults l.fn.folder l.folder l.fn.reader l.reader (map string_bytes l.notes.items))

abbrev pub decreases-loop-notes : goal.decreases-loop-notes
decreases-loop-notes g l = l.reader.due
