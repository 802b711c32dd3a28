use Rattle.std.proofs.Common.{[], ◌∷◌, Option, None, true, false, refl, sym, ap, subst, ◌∙◌}
use Rattle.version_set.specs.View.{pairs_of}
use Rattle.record_copy.specs.Faults as copy
use Rattle.record_copy.specs.Passes.{Passes}
use Rattle.record_copy.specs.Runs.{Sent}
use Rattle.record_copy.specs.declared.fault.CopyFault.{CopyFault}
use Rattle.record_copy.proofs.Passing.{at-err}
use Rattle.record_cursor.specs.View.{PlainCursor}
use Rattle.record_writer.specs.Calls.{after}
use Rattle.record_writer.specs.Data.{PlainWriter, call_finish}
use Rattle.record_writer.specs.View.{writer_view}
use Rattle.record_writer.specs.declared.writer.Writer.{Writer}
use Rattle.archive_join.specs.Faults.{fault_of}
use Rattle.archive_join.specs.State.{State, beside, with_first}
use Rattle.archive_join.specs.Whole.{NodesJoined}
use Rattle.archive_join.specs.declared.fault.JoinFault.{JoinFault}
use Rattle.archive_join.proofs.Rooting.{finishes, no-fault, nodes-unjoined, nodes-unfinished, nodes-unread, nodes-joined}
use Rattle.archive_join.proofs.Running.{side-fault}
use Rattle.archive_join.proofs.whole.join_nodes.Given.{Over}
use Rattle.archive_join.proofs.whole.join_nodes.Goals.{In_ok-of_side}
use Rattle.archive_join.proofs.whole.join_nodes.Goals as goal

abbrev at : (g : Over) → g.row.F.Denot → PlainCursor → PlainCursor → PlainWriter → State
at g = (let f = g.F.Folder in beside f.files f.draft f.numbers f.faults)

-- what the writer would hold behind its last call
abbrev last : Writer → PlainWriter
last w = after (writer_view w) call_finish

pub returns-in_err-join_row : goal.returns-in_err-join_row
returns-in_err-join_row g c =
    let f = g.F.Folder in
    let n = c.args.sides.now.two.by in
    let s = c.args.sets.now in
    let m = c.join_row.new in
    let e = c.in_err-join_row in
    at-err c.from_residual.result e.field-0.0 c.from_residual.ensures.1 (λ z. NodesJoined f.files f.draft f.numbers f.faults n (pairs_of s.one) (pairs_of s.two) (pairs_of s.both) c.args.folder.now m.folder c.args.left.now c.args.right.now c.args.writer (fault_of z))
    (nodes-unjoined f.files f.draft f.numbers f.faults n (pairs_of s.one) (pairs_of s.two) (pairs_of s.both) c.args.folder.now m.folder c.args.left.now c.args.right.now m.left m.right c.args.writer (writer_view m.writer) e.field-0.0 e.ensures)

pub returns-in_err-of_side : goal.returns-in_err-of_side
returns-in_err-of_side g c =
    let f = g.F.Folder in
    let n = c.args.sides.now.two.by in
    let s = c.args.sets.now in
    let m = c.join_row.new in
    let now = c.finish.new.folder in
    let v = writer_view m.writer in
    let row = c.in_ok-join_row.ensures in
    let run = row.run in
    let d = c.finish.ensures in
    let e = c.in_err-of_side in
    let r = c.from_residual-in_err-of_side in
    let sent = finishes f.files f.draft f.numbers f.faults m.folder now m.left v c.finish.result c.written.result (g.met.F.Folder.metered m.folder) run.passes.first.within d.folder d.too_long c.written.ensures in
    at-err r.result e.field-0.0 r.ensures.1 (λ z. NodesJoined f.files f.draft f.numbers f.faults n (pairs_of s.one) (pairs_of s.two) (pairs_of s.both) c.args.folder.now now c.args.left.now c.args.right.now c.args.writer (fault_of z))
    (subst (λ (o : Option JoinFault). NodesJoined f.files f.draft f.numbers f.faults n (pairs_of s.one) (pairs_of s.two) (pairs_of s.both) c.args.folder.now now c.args.left.now c.args.right.now c.args.writer o)
    (sym (side-fault false c.written.result c.of_side.result c.of_side.ensures) ∙ ap fault_of e.was)
    (nodes-unfinished f.files f.draft f.numbers f.faults n (pairs_of s.one) (pairs_of s.two) (pairs_of s.both) c.args.folder.now now c.args.left.now c.args.right.now m.left m.right c.args.writer (last m.writer)
    (at g m.folder m.left m.right v) row (copy.fault_of c.written.result) sent refl))

-- the last call was made
sent : (g : Over) (c : In_ok-of_side g) → Sent (call_finish ∷ []) (with_first (at g c.join_row.new.folder c.join_row.new.left c.join_row.new.right (writer_view c.join_row.new.writer))) (with_first (at g c.finish.new.folder c.join_row.new.left c.join_row.new.right (last c.join_row.new.writer))) None
sent g c =
    let f = g.F.Folder in
    let m = c.join_row.new in
    let now = c.finish.new.folder in
    let v = writer_view m.writer in
    let row = c.in_ok-join_row.ensures in
    let run = row.run in
    let d = c.finish.ensures in
    let i = c.in_ok-of_side in
    subst (λ (o : Option CopyFault). Sent (call_finish ∷ []) (with_first (at g m.folder m.left m.right v)) (with_first (at g now m.left m.right (last m.writer))) o) (no-fault false c.written.result c.of_side.result i.field-0 c.of_side.ensures i.was)
    (finishes f.files f.draft f.numbers f.faults m.folder now m.left v c.finish.result c.written.result (g.met.F.Folder.metered m.folder) run.passes.first.within d.folder d.too_long c.written.ensures)

pub returns-in_err-of_side-2 : goal.returns-in_err-of_side-2
returns-in_err-of_side-2 g c =
    let f = g.F.Folder in
    let n = c.args.sides.now.two.by in
    let s = c.args.sets.now in
    let m = c.join_row.new in
    let k = c.read_finish.new in
    let w = last m.writer in
    let e = c.in_err-of_side-2 in
    let r = c.from_residual-in_err-of_side-2 in
    at-err r.result e.field-0.0 r.ensures.1 (λ z. NodesJoined f.files f.draft f.numbers f.faults n (pairs_of s.one) (pairs_of s.two) (pairs_of s.both) c.args.folder.now k.folder c.args.left.now c.args.right.now c.args.writer (fault_of z))
    (subst (λ (o : Option JoinFault). NodesJoined f.files f.draft f.numbers f.faults n (pairs_of s.one) (pairs_of s.two) (pairs_of s.both) c.args.folder.now k.folder c.args.left.now c.args.right.now c.args.writer o)
    (sym (side-fault false c.read_finish.result c.of_side-2.result c.of_side-2.ensures) ∙ ap fault_of e.was)
    (nodes-unread f.files f.draft f.numbers f.faults n (pairs_of s.one) (pairs_of s.two) (pairs_of s.both) c.args.folder.now k.folder c.args.left.now c.args.right.now k.cursor m.right c.args.writer w
    (at g m.folder m.left m.right (writer_view m.writer)) c.in_ok-join_row.ensures (at g c.finish.new.folder m.left m.right w) (sent g (goal.at.returns-in_err-of_side-2 g c).In_ok-of_side) refl
    c.read_finish.result (c.read_finish.ensures w 0) refl refl))

pub returns : goal.returns
returns g c =
    let f = g.F.Folder in
    let n = c.args.sides.now.two.by in
    let s = c.args.sets.now in
    let m = c.join_row.new in
    let k = c.read_finish.new in
    let l = c.read_finish-2.new in
    let w = last m.writer in
    let u = at g c.finish.new.folder m.left m.right w in
    let a = at g k.folder k.cursor m.right w in
    let i = c.in_ok-of_side-2 in
    let first = c.read_finish.ensures w 0 in
    let passes = subst (λ (o : Option CopyFault). Passes [] (with_first u) (with_first a) o) (no-fault false c.read_finish.result c.of_side-2.result i.field-0 c.of_side-2.ensures i.was) first.passes in
    subst (λ (o : Option JoinFault). NodesJoined f.files f.draft f.numbers f.faults n (pairs_of s.one) (pairs_of s.two) (pairs_of s.both) c.args.folder.now l.folder c.args.left.now c.args.right.now c.args.writer o)
    (sym (side-fault true c.read_finish-2.result c.of_side-3.result c.of_side-3.ensures))
    (nodes-joined f.files f.draft f.numbers f.faults n (pairs_of s.one) (pairs_of s.two) (pairs_of s.both) c.args.folder.now l.folder c.args.left.now c.args.right.now k.cursor l.cursor c.args.writer w
    (at g m.folder m.left m.right (writer_view m.writer)) c.in_ok-join_row.ensures u (sent g (goal.at.returns g c).In_ok-of_side) refl a passes refl refl c.read_finish-2.result (c.read_finish-2.ensures w n) refl refl)
