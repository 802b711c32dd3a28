use Rattle.std.proofs.Common.{[], ◌∷◌, ◌≡◌, Option, Some, None, refl, ap, subst, ◌∙◌}
use Rattle.version_set.specs.View.{pairs_of}
use Rattle.record_cursor.specs.View.{PlainCursor}
use Rattle.record_writer.specs.Calls.{after}
use Rattle.record_writer.specs.Data.{PlainWriter, call_finish}
use Rattle.record_writer.specs.View.{writer_view}
use Rattle.record_writer.specs.declared.writer.Writer.{Writer}
use Rattle.record_copy.specs.Faults.{fault_of, of_cursor}
use Rattle.record_copy.specs.Runs.{Sent}
use Rattle.record_copy.specs.State.{State, beside}
use Rattle.record_copy.specs.declared.fault.CopyFault.{CopyFault}
use Rattle.record_copy.proofs.Passing.{Nexts, nexts, stays-by, at-err}
use Rattle.record_copy.proofs.Running.{written, called, plain-sends}
use Rattle.archive_cut.specs.Whole.{NodesCut}
use Rattle.archive_cut.proofs.Rooting.{on-ok, nodes-uncut, nodes-unfinished, nodes-unread, nodes-other, nodes-cut}
use Rattle.archive_cut.proofs.whole.cut_nodes.Given.{Over}
use Rattle.archive_cut.proofs.whole.cut_nodes.Goals.{In_ok-written, In_ok-next}
use Rattle.archive_cut.proofs.whole.cut_nodes.Goals as goal

pub returns-in_err-cut_row : goal.returns-in_err-cut_row
returns-in_err-cut_row g c =
    let f = g.F.Folder in
    let w = c.args.window.now in
    let q = pairs_of c.args.before.now in
    let m = c.cut_row.new in
    let e = c.in_err-cut_row in
    at-err c.from_residual.result e.field-0.0 c.from_residual.ensures.1 (λ z. NodesCut f.files f.draft f.numbers f.faults w.first w.last q c.args.folder.now m.folder c.args.cursor.now c.args.writer (fault_of z))
    (nodes-uncut f.files f.draft f.numbers f.faults w.first w.last q c.args.folder.now m.folder c.args.cursor.now m.cursor c.args.writer (writer_view m.writer) e.field-0.0 e.ensures)

abbrev at : (g : Over) → g.row.F.Denot → PlainCursor → PlainWriter → State
at g = (let f = g.F.Folder in beside f.files f.draft f.numbers f.faults)

-- what the writer would hold behind its last call
abbrev last : Writer → PlainWriter
last w = after (writer_view w) call_finish

pub returns-in_err-written : goal.returns-in_err-written
returns-in_err-written g c =
    let f = g.F.Folder in
    let w = c.args.window.now in
    let q = pairs_of c.args.before.now in
    let m = c.cut_row.new in
    let n = c.finish.new.folder in
    let v = writer_view m.writer in
    let row = c.in_ok-cut_row.ensures in
    let run = row.run in
    let passes = run.passes in
    let d = c.finish.ensures in
    let e = c.in_err-written in
    let r = c.from_residual-in_err-written in
    let fault : written c.finish.result ≡ Some e.field-0.0 = called c.finish.result c.written.result c.written.ensures ∙ ap fault_of e.was in
    let sent = plain-sends f.files f.draft f.numbers f.faults m.folder n m.cursor v (after v call_finish) call_finish c.finish.result (g.met.F.Folder.metered m.folder) passes.within d.folder (on-ok c.finish.result _ refl) d.too_long in
    at-err r.result e.field-0.0 r.ensures.1 (λ z. NodesCut f.files f.draft f.numbers f.faults w.first w.last q c.args.folder.now n c.args.cursor.now c.args.writer (fault_of z))
    (nodes-unfinished f.files f.draft f.numbers f.faults w.first w.last q c.args.folder.now n c.args.cursor.now m.cursor c.args.writer (after v call_finish) (at g m.folder m.cursor v) row e.field-0.0
    (subst (λ (o : Option CopyFault). Sent (call_finish ∷ []) (at g m.folder m.cursor v) (at g n m.cursor (after v call_finish)) o) fault sent))

-- the last call was made
sent : (g : Over) (c : In_ok-written g) → Sent (call_finish ∷ []) (at g c.cut_row.new.folder c.cut_row.new.cursor (writer_view c.cut_row.new.writer)) (at g c.finish.new.folder c.cut_row.new.cursor (last c.cut_row.new.writer)) None
sent g c =
    let f = g.F.Folder in
    let m = c.cut_row.new in
    let n = c.finish.new.folder in
    let v = writer_view m.writer in
    let row = c.in_ok-cut_row.ensures in
    let run = row.run in
    let passes = run.passes in
    let d = c.finish.ensures in
    let none : written c.finish.result ≡ None = called c.finish.result c.written.result c.written.ensures ∙ ap fault_of c.in_ok-written.was in
    subst (λ (o : Option CopyFault). Sent (call_finish ∷ []) (at g m.folder m.cursor v) (at g n m.cursor (after v call_finish)) o) none
    (plain-sends f.files f.draft f.numbers f.faults m.folder n m.cursor v (after v call_finish) call_finish c.finish.result (g.met.F.Folder.metered m.folder) passes.within d.folder (on-ok c.finish.result _ refl) d.too_long)

-- the item that was given
read : (g : Over) (c : In_ok-next g) → Nexts (at g c.finish.new.folder c.cut_row.new.cursor (last c.cut_row.new.writer)) (at g c.next.new.folder c.next.follows.lender-at-none (last c.cut_row.new.writer)) c.in_ok-next.field-0
read g c =
    let w = last c.cut_row.new.writer in
    let i = c.in_ok-next in
    nexts (at g c.finish.new.folder c.cut_row.new.cursor w) (at g c.next.new.folder c.next.follows.lender-at-none w) c.next.result i.field-0 (g.met.F.Folder.metered c.next.new.folder) i.was i.ensures.files i.ensures.draft refl i.ensures.numbers i.ensures.later
    c.next.follows.holds-at-none

pub returns-in_err-next : goal.returns-in_err-next
returns-in_err-next g c =
    let f = g.F.Folder in
    let win = c.args.window.now in
    let bq = pairs_of c.args.before.now in
    let m = c.cut_row.new in
    let n = c.next.new.folder in
    let d = c.next.follows.lender-at-none in
    let w = last m.writer in
    let u = at g c.finish.new.folder m.cursor w in
    let e = c.in_err-next in
    let r = c.from_residual-in_err-next in
    let stays = stays-by u (at g n d w) c.next.result e.field-0.0 e.was e.ensures.files e.ensures.draft e.ensures.pulls e.ensures.later e.ensures.cause e.ensures.undamaged c.next.follows.holds-at-none in
    at-err r.result (of_cursor e.field-0.0) r.ensures.1 (λ z. NodesCut f.files f.draft f.numbers f.faults win.first win.last bq c.args.folder.now n c.args.cursor.now c.args.writer (fault_of z))
    (nodes-unread f.files f.draft f.numbers f.faults win.first win.last bq c.args.folder.now n c.args.cursor.now d c.args.writer w (at g m.folder m.cursor (writer_view m.writer)) c.in_ok-cut_row.ensures u
    (sent g (goal.at.returns-in_err-next g c).In_ok-written) e.field-0.0 refl stays)

pub returns-in-Finish : goal.returns-in-Finish
returns-in-Finish g c =
    let f = g.F.Folder in
    let win = c.args.window.now in
    let bq = pairs_of c.args.before.now in
    let m = c.cut_row.new in
    let w = last m.writer in
    let here = goal.at.returns-in-Finish g c in
    nodes-cut f.files f.draft f.numbers f.faults win.first win.last bq c.args.folder.now c.next.new.folder c.args.cursor.now c.next.follows.lender-at-none c.args.writer w (at g m.folder m.cursor (writer_view m.writer)) c.in_ok-cut_row.ensures
    (at g c.finish.new.folder m.cursor w) (sent g here.In_ok-written) c.in_ok-next.field-0 refl (read g here.In_ok-next)

pub returns-in_default : goal.returns-in_default
returns-in_default g c =
    let f = g.F.Folder in
    let win = c.args.window.now in
    let bq = pairs_of c.args.before.now in
    let m = c.cut_row.new in
    let w = last m.writer in
    let here = goal.at.returns-in_default g c in
    nodes-other f.files f.draft f.numbers f.faults win.first win.last bq c.args.folder.now c.next.new.folder c.args.cursor.now c.next.follows.lender-at-none c.args.writer w (at g m.folder m.cursor (writer_view m.writer)) c.in_ok-cut_row.ensures
    (at g c.finish.new.folder m.cursor w) (sent g here.In_ok-written) c.in_ok-next.field-0 c.in_default.not-Finish refl (read g here.In_ok-next)
