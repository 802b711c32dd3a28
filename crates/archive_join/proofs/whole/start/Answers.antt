use Rattle.record_copy.specs.Faults.{of_writer}
use Rattle.record_copy.proofs.Passing.{at-err}
use Rattle.record_cursor.specs.View.{header_view}
use Rattle.archive_join.specs.Whole.{Begun}
use Rattle.archive_join.proofs.Starting.{begun-err}
use Rattle.archive_join.proofs.whole.start.Goals as goal

pub returns-in_err-start : goal.returns-in_err-start
returns-in_err-start g c =
    let f = g.F.Folder in
    let h = header_view c.args.header.now in
    let e = c.in_err-start in
    at-err c.from_residual.result (of_writer e.field-0.0) c.from_residual.ensures.1 (λ r. Begun f.files f.draft f.numbers f.faults h c.args.versions c.args.folder.now c.start.new.folder r)
    (begun-err f.files f.draft f.numbers f.faults h c.args.versions c.args.folder.now c.start.new.folder e.field-0.0 (g.met.F.Folder.metered c.args.folder.now) e.ensures.folder e.ensures.never_too_long)
