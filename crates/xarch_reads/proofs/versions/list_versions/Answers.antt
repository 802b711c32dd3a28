use Rattle.std.proofs.Common.{rules}
use Rattle.xarch_words.specs.View.{fault_view}
use Rattle.xarch_reads.proofs.ListEnds.{flushed, unflushed, unflushed-last}
use Rattle.xarch_reads.proofs.versions.list_versions.Goals as goal

pub returns-in-Ok-flush : goal.returns-in-Ok-flush
returns-in-Ok-flush g c =
    let e = c.in-Ok-flush.ensures in
    flushed g.F.Folder.files g.F.Folder.draft g.F.Folder.numbers g.F.Folder.faults g.O.Sink.taken g.O.Sink.faults c.args.archive.now c.args.reader c.args.folder.now c.put_versions.new.folder c.new-lines.result c.put_versions.new.sink c.args.out.now _ (search rules) (search rules)
    c.flush.new.self (search rules) e.bytes c.in-Ok.ensures e.empty e.cause.later

pub returns-in-Err-flush : goal.returns-in-Err-flush
returns-in-Err-flush g c =
    let e = c.in-Err-flush.ensures in
    unflushed-last g.F.Folder.files g.F.Folder.draft g.F.Folder.numbers g.F.Folder.faults g.O.Sink.taken g.O.Sink.faults c.args.archive.now c.args.reader c.args.folder.now c.put_versions.new.folder c.new-lines.result c.put_versions.new.sink c.args.out.now _ (search rules) (search rules)
    c.flush.new.self (search rules) e.bytes c.in-Ok.ensures e.cause.later e.cause.failed

pub returns-in-Err : goal.returns-in-Err
returns-in-Err g c =
    unflushed g.F.Folder.files g.F.Folder.draft g.F.Folder.numbers g.F.Folder.faults g.O.Sink.taken g.O.Sink.faults c.args.archive.now c.args.reader c.args.folder.now c.put_versions.new.folder c.new-lines.result c.put_versions.new.sink c.args.out.now _ (search rules) (search rules)
    (fault_view c.in-Err.fault) (search rules) c.in-Err.ensures
