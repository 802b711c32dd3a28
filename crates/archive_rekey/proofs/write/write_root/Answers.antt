use Rattle.std.proofs.Common.{[], ◌∷◌, ◌++◌, ◌∙◌}
use Rattle.version_set.specs.View.{pairs_of}
use Rattle.record_writer.specs.Calls.{after, after_all}
use Rattle.record_writer.specs.Data.{call_finish}
use Rattle.record_writer.specs.View.{writer_view}
use Rattle.record_writer.specs.Walks.{row_calls}
use Rattle.spelled_archive.specs.View.{nodes_view}
use Rattle.archive_rekey.specs.Drafted.{Called}
use Rattle.archive_rekey.proofs.Calling.{at-err, called-fault, called-last, called-then, called-whole}
use Rattle.archive_rekey.proofs.WrittenRows.{behind-row}
use Rattle.archive_rekey.proofs.write.write_root.Goals as goal

pub finish-requires : goal.finish-requires
finish-requires g c =
    let behind = behind-row (writer_view c.args.writer) (writer_view c.write_row.new.writer) (pairs_of c.args.all.now) (nodes_view c.args.kids.now) c.requires.no_leaf c.in_ok-write_row.ensures.holds in
    record { no_leaf = behind.0; no_inner = behind.1 ∙ c.requires.no_inner }

pub returns-in_err-write_row : goal.returns-in_err-write_row
returns-in_err-write_row g c =
    let f = g.F.Folder in
    let row = row_calls (pairs_of c.args.all.now) (nodes_view c.args.kids.now) in
    let v = writer_view c.args.writer in
    let w = writer_view c.write_row.new.writer in
    let z = after_all v (row ++ call_finish ∷ []) in
    let fault = c.in_err-write_row.field-0.0 in
    at-err c.from_residual.result fault c.from_residual.ensures.1 (λ r. Called f.files f.draft f.numbers f.faults (row ++ call_finish ∷ []) c.args.folder.now c.write_row.new.folder v z r)
    (called-fault row (call_finish ∷ []) c.args.folder.now c.write_row.new.folder v w z fault c.in_err-write_row.ensures)

pub returns : goal.returns
returns g c =
    let row = row_calls (pairs_of c.args.all.now) (nodes_view c.args.kids.now) in
    let v = writer_view c.args.writer in
    let w = writer_view c.write_row.new.writer in
    let r = c.finish.result in
    let e = c.finish.ensures in
    let end = called-last call_finish c.write_row.new.folder c.finish.new.folder w r (g.met.F.Folder.metered c.write_row.new.folder) e.folder e.too_long in
    called-whole (row ++ call_finish ∷ []) c.args.folder.now c.finish.new.folder v (after w call_finish) r
    (called-then row (call_finish ∷ []) c.args.folder.now c.write_row.new.folder c.finish.new.folder v w (after w call_finish) tt r c.in_ok-write_row.ensures end)
