use Rattle.std.proofs.Common.{List, ℕ}
use Rattle.version_notes.proofs.Copied.{Copied}
use Rattle.version_notes.proofs.walk.copy_notes.Given as goal

abbrev pub invariant-loop-reader : goal.invariant-loop-reader
invariant-loop-reader g l = (
    let f = g.F.Folder in
    (done : List (List ℕ)) × Copied f.files f.draft f.numbers f.faults l.initial.folder l.folder l.initial.reader l.reader l.initial.writer l.writer done)

abbrev pub decreases-loop-reader : goal.decreases-loop-reader
decreases-loop-reader g l = l.reader.due
