use Rattle.std.proofs.Common.{Ok, take}
use Rattle.record_writer.specs.View.{writer_view}
use Rattle.archive_rekey.specs.Drafted.{Called}
use Rattle.archive_rekey.proofs.WrittenRows.{calls_of_alts}
use Rattle.archive_rekey.proofs.write.write_alts.Given as goal

-- so many alternatives were written
abbrev pub invariant-loop-alt : goal.invariant-loop-alt
invariant-loop-alt g l =
    let f = g.F.Folder in
    Called {T = Unit {0}} f.files f.draft f.numbers f.faults (calls_of_alts (take l.alt-index l.alts)) l.fn.folder l.folder (writer_view l.fn.writer) (writer_view l.writer) (Ok tt)
