use Rattle.std.proofs.Common.{Ok, take}
use Rattle.version_set.specs.View.{pairs_of}
use Rattle.record_writer.specs.View.{writer_view}
use Rattle.archive_rekey.specs.Drafted.{Called}
use Rattle.archive_rekey.proofs.WrittenRows.{calls_of_nodes}
use Rattle.archive_rekey.proofs.write.+write.Given as goal

-- so many nodes were written
abbrev pub invariant-write_row-loop-node : goal.invariant-write_row-loop-node
invariant-write_row-loop-node g l =
    let f = g.F.Folder in
    Called {T = Unit {0}} f.files f.draft f.numbers f.faults (calls_of_nodes (pairs_of l.set) (take l.node-index l.nodes)) l.fn.folder l.folder (writer_view l.fn.writer) (writer_view l.writer) (Ok tt)
