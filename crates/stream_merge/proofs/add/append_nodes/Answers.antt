use Rattle.std.proofs.Common.{None, Ok, Err, [], ◌∷◌, refl}
use Rattle.key_annotate.specs.LentView.{lent_view}
use Rattle.keyed_parts.specs.View.{kids_view}
use Rattle.record_cursor.specs.View.{PlainCursor}
use Rattle.record_writer.specs.Data.{PlainWriter, call_finish}
use Rattle.record_writer.specs.Calls.{after}
use Rattle.record_writer.specs.View.{writer_view}
use Rattle.record_writer.specs.declared.writer.Writer.{Writer}
use Rattle.stream_merge.specs.Appended.{NodesAppended}
use Rattle.stream_merge.specs.Does.{Sent}
use Rattle.stream_merge.specs.Passes.{fault_of, of_cursor, of_writer}
use Rattle.record_copy.specs.State.{State, beside}
use Rattle.stream_merge.specs.View.{inherited_view}
use Rattle.stream_merge.proofs.States.{plain-sends, Nexts, nexts, stays-by}
use Rattle.stream_merge.proofs.Handed.{at-err}
use Rattle.stream_merge.proofs.Appending.{nodes-unmerged, nodes-unfinished, nodes-unread, nodes-other, nodes-appended}
use Rattle.stream_merge.proofs.add.append_nodes.Given.{Over}
use Rattle.stream_merge.proofs.add.append_nodes.Goals.{In_ok-finish, In_ok-next}
use Rattle.stream_merge.proofs.add.append_nodes.Goals as goal

abbrev at : (g : Over) → g.row.F.Denot → PlainCursor → PlainWriter → State
at g = (let f = g.F.Folder in beside f.files f.draft f.numbers f.faults)

-- the writer behind its last call
abbrev last : Writer → PlainWriter
last w = after (writer_view w) call_finish

-- the last call was made
sent : (g : Over) (c : In_ok-finish g) → Sent (call_finish ∷ []) (at g c.merge_row.new.folder c.merge_row.new.cursor (writer_view c.merge_row.new.writer)) (at g c.finish.new.folder c.merge_row.new.cursor (last c.merge_row.new.writer)) None
sent g c =
    let f = g.F.Folder in
    let w = c.merge_row.new.writer in
    let passes = c.in_ok-merge_row.ensures.passes in
    let i = c.in_ok-finish in
    plain-sends f.files f.draft f.numbers f.faults c.merge_row.new.folder c.finish.new.folder c.merge_row.new.cursor (writer_view w) (last w) call_finish (Ok i.field-0) (g.met.F.Folder.metered c.merge_row.new.folder) passes.within i.ensures.folder refl i.ensures.too_long

-- an item was given
read : (g : Over) (c : In_ok-next g) → Nexts (at g c.finish.new.folder c.merge_row.new.cursor (last c.merge_row.new.writer)) (at g c.next.new.folder c.next.follows.lender-at-none (last c.merge_row.new.writer)) c.in_ok-next.field-0
read g c =
    let w = last c.merge_row.new.writer in
    let i = c.in_ok-next in
    nexts (at g c.finish.new.folder c.merge_row.new.cursor w) (at g c.next.new.folder c.next.follows.lender-at-none w) c.next.result i.field-0 (g.met.F.Folder.metered c.next.new.folder) i.was i.ensures.files i.ensures.draft refl i.ensures.numbers i.ensures.later i.ensures.reads
    c.next.follows.holds-at-none

pub returns-in_err-merge_row : goal.returns-in_err-merge_row
returns-in_err-merge_row g c =
    let f = g.F.Folder in
    let h = inherited_view c.args.from.now in
    let k = lent_view c.args.new.now in
    let m = c.merge_row.new.folder in
    let e = c.in_err-merge_row in
    let r = c.from_residual in
    at-err r.result e.field-0.0 r.ensures.1 (λ r. NodesAppended f.files f.draft f.numbers f.faults h k c.args.folder.now m c.args.cursor.now c.args.writer (fault_of r))
    (nodes-unmerged f.files f.draft f.numbers f.faults h k c.args.folder.now m c.args.cursor.now c.args.writer c.merge_row.new.cursor (writer_view c.merge_row.new.writer) (kids_view c.only.result) c.only.ensures e.field-0.0 e.ensures)

pub returns-in_err-finish : goal.returns-in_err-finish
returns-in_err-finish g c =
    let f = g.F.Folder in
    let h = inherited_view c.args.from.now in
    let k = lent_view c.args.new.now in
    let m = c.merge_row.new.folder in
    let d = c.merge_row.new.cursor in
    let w = writer_view c.merge_row.new.writer in
    let n = c.finish.new.folder in
    let row = c.in_ok-merge_row.ensures in
    let passes = row.passes in
    let e = c.in_err-finish in
    let r = c.from_residual-in_err-finish in
    let failed = plain-sends f.files f.draft f.numbers f.faults m n d w (after w call_finish) call_finish (Err e.field-0.0) (g.met.F.Folder.metered m) passes.within e.ensures.folder tt e.ensures.too_long in
    at-err r.result (of_writer e.field-0.0) r.ensures.1 (λ r. NodesAppended f.files f.draft f.numbers f.faults h k c.args.folder.now n c.args.cursor.now c.args.writer (fault_of r))
    (nodes-unfinished f.files f.draft f.numbers f.faults h k c.args.folder.now n c.args.cursor.now c.args.writer d (after w call_finish) (kids_view c.only.result) c.only.ensures (at g m d w) row (of_writer e.field-0.0) failed)

pub returns-in_err-next : goal.returns-in_err-next
returns-in_err-next g c =
    let f = g.F.Folder in
    let h = inherited_view c.args.from.now in
    let k = lent_view c.args.new.now in
    let m = c.merge_row.new in
    let n = c.next.new.folder in
    let d = c.next.follows.lender-at-none in
    let w = last m.writer in
    let q = at g c.finish.new.folder m.cursor w in
    let e = c.in_err-next in
    let r = c.from_residual-in_err-next in
    let stays = stays-by q (at g n d w) c.next.result e.field-0.0 e.was e.ensures.files e.ensures.draft e.ensures.pulls e.ensures.later e.ensures.cause e.ensures.undamaged e.ensures.reads c.next.follows.holds-at-none in
    at-err r.result (of_cursor e.field-0.0) r.ensures.1 (λ r. NodesAppended f.files f.draft f.numbers f.faults h k c.args.folder.now n c.args.cursor.now c.args.writer (fault_of r))
    (nodes-unread f.files f.draft f.numbers f.faults h k c.args.folder.now n c.args.cursor.now c.args.writer d w (kids_view c.only.result) c.only.ensures (at g m.folder m.cursor (writer_view m.writer)) c.in_ok-merge_row.ensures q
    (sent g (goal.at.returns-in_err-next g c).In_ok-finish) e.field-0.0 stays)

pub returns-in-Finish : goal.returns-in-Finish
returns-in-Finish g c =
    let f = g.F.Folder in
    let m = c.merge_row.new in
    let w = last m.writer in
    let here = goal.at.returns-in-Finish g c in
    let gains = c.in_ok-finish.ensures.folder.gains in
    nodes-appended f.files f.draft f.numbers f.faults (inherited_view c.args.from.now) (lent_view c.args.new.now) c.args.folder.now c.next.new.folder c.args.cursor.now c.args.writer c.next.follows.lender-at-none w (kids_view c.only.result)
    c.only.ensures (at g m.folder m.cursor (writer_view m.writer)) c.in_ok-merge_row.ensures (at g c.finish.new.folder m.cursor w) (sent g here.In_ok-finish) c.in_ok-next.field-0 c.in-Finish.is (g.met.F.Folder.metered m.folder) gains.numbers
    (read g here.In_ok-next)

pub returns-in_default : goal.returns-in_default
returns-in_default g c =
    let f = g.F.Folder in
    let m = c.merge_row.new in
    let w = last m.writer in
    let here = goal.at.returns-in_default g c in
    nodes-other f.files f.draft f.numbers f.faults (inherited_view c.args.from.now) (lent_view c.args.new.now) c.args.folder.now c.next.new.folder c.args.cursor.now c.args.writer c.next.follows.lender-at-none w (kids_view c.only.result)
    c.only.ensures (at g m.folder m.cursor (writer_view m.writer)) c.in_ok-merge_row.ensures (at g c.finish.new.folder m.cursor w) (sent g here.In_ok-finish) c.in_ok-next.field-0 c.in_default.not-Finish (read g here.In_ok-next)
