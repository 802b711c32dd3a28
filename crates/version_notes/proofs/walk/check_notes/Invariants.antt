use Rattle.std.proofs.Common.{List, ℕ}
use Rattle.version_notes.proofs.Walks.{Walked}
use Rattle.version_notes.proofs.walk.check_notes.Given as goal

abbrev pub invariant-loop-reader : goal.invariant-loop-reader
invariant-loop-reader g l = (
    let f = g.F.Folder in
    (done : List (List ℕ)) × Walked f.files f.draft f.numbers f.faults l.initial.folder l.folder l.initial.reader l.reader done)

abbrev pub decreases-loop-reader : goal.decreases-loop-reader
decreases-loop-reader g l = l.reader.due
