use Rattle.xarch_copies.specs.Slicing.{Skips}
use Rattle.xarch_copies.proofs.slice.skip_notes.Given as goal

abbrev pub invariant-loop : goal.invariant-loop
invariant-loop g l = (
    let f = g.F.Folder in
    Skips f.files f.draft f.numbers f.faults l.initial.folder l.folder l.initial.reader l.reader l.counter)
