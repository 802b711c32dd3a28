use Rattle.xarch_reads.specs.Written.{written_state}
use Rattle.xarch_reads.proofs.ListLemmas.{SoFar}
use Rattle.xarch_reads.proofs.versions.put_versions.Given as goal

abbrev pub invariant-loop-note : goal.invariant-loop-note
invariant-loop-note g l =
    SoFar l.initial.reader l.reader l.number (written_state g.F.Folder.files g.F.Folder.draft g.F.Folder.numbers g.F.Folder.faults g.K.Sink.taken g.K.Sink.faults l.initial.folder l.initial.sink)
    (written_state g.F.Folder.files g.F.Folder.draft g.F.Folder.numbers g.F.Folder.faults g.K.Sink.taken g.K.Sink.faults l.folder l.sink)

abbrev pub decreases-loop-note : goal.decreases-loop-note
decreases-loop-note g l = l.reader.due
