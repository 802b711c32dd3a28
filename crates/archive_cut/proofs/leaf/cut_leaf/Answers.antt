use Rattle.std.proofs.Common.{refl, subst}
use Rattle.std.proofs.Common.{[], ◌∷◌, ◌++◌, map}
use Rattle.version_set.specs.View.{pairs_of}
use Rattle.record_cursor.specs.View.{PlainCursor}
use Rattle.record_writer.specs.Data.{call_end_leaf}
use Rattle.record_writer.specs.View.{writer_view}
use Rattle.record_writer.specs.Walks.{alt_calls}
use Rattle.record_writer.specs.declared.writer.Writer.{Writer}
use Rattle.record_copy.specs.Faults.{fault_of}
use Rattle.record_copy.specs.Runs.{Sent}
use Rattle.record_copy.specs.State.{State, state}
use Rattle.record_copy.proofs.Passing.{at-err}
use Rattle.archive_cut.specs.Held.{held_view}
use Rattle.archive_cut.specs.Walked.{LeafCut}
use Rattle.archive_cut.proofs.Leaving.{leaf-fault, leaf-cut}
use Rattle.archive_cut.proofs.leaf.cut_leaf.Given.{Over}
use Rattle.archive_cut.proofs.leaf.cut_leaf.Goals as goal

abbrev at : (g : Over) → g.row.F.Denot → PlainCursor → Writer → State
at g = (let f = g.F.Folder in state f.files f.draft f.numbers f.faults)

pub returns-in_err-read_alts : goal.returns-in_err-read_alts
returns-in_err-read_alts g c =
    let win = c.args.window.now in
    let q = pairs_of c.args.before.now in
    let s = at g c.args.folder.now c.args.cursor.now c.args.writer.now in
    let t = at g c.read_alts.new.folder c.read_alts.new.cursor c.args.writer.now in
    let e = c.in_err-read_alts in
    at-err c.from_residual.result e.field-0.0 c.from_residual.ensures.1 (λ z. LeafCut win.first win.last q s t (fault_of z)) (leaf-fault win.first win.last q (pairs_of c.args.now.now) s t e.field-0.0 refl (e.ensures (writer_view c.args.writer.now)))

pub returns : goal.returns
returns g c =
    let win = c.args.window.now in
    let q = pairs_of c.args.before.now in
    let s = at g c.args.folder.now c.args.cursor.now c.args.writer.now in
    let t = at g c.read_alts.new.folder c.read_alts.new.cursor c.args.writer.now in
    let u = at g c.put_held.new.folder c.read_alts.new.cursor c.put_held.new.writer in
    let read = c.in_ok-read_alts.ensures (writer_view c.args.writer.now) in
    let passes = read.passes in
    let sent = c.put_held.ensures c.read_alts.new.cursor passes.within in
    let put = subst (λ hs. Sent (alt_calls (map held_view hs) ++ call_end_leaf ∷ []) t u (fault_of c.put_held.result)) c.deref.ensures.value sent in
    leaf-cut win.first win.last q (pairs_of c.args.now.now) s t u (fault_of c.put_held.result) _ _ c.requires.left refl read c.in_order-held.ensures put
