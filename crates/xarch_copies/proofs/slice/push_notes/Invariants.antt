use Rattle.xarch_copies.specs.Slicing.{Pushes}
use Rattle.xarch_copies.proofs.slice.push_notes.Given as goal

abbrev pub invariant-loop : goal.invariant-loop
invariant-loop g l = (
    let f = g.F.Folder in
    Pushes f.files f.draft f.numbers f.faults l.initial.folder l.folder l.initial.reader l.reader l.initial.writer l.writer l.counter)
