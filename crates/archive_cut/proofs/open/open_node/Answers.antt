use Rattle.version_set.specs.View.{pairs_of}
use Rattle.archive_tree.specs.View.{stamp_view}
use Rattle.record_parts.specs.ShownViews.{shown_label}
use Rattle.record_cursor.specs.View.{PlainCursor}
use Rattle.record_writer.specs.declared.writer.Writer.{Writer}
use Rattle.record_copy.specs.Faults.{fault_of}
use Rattle.record_copy.specs.Runs.{Sent}
use Rattle.record_copy.specs.State.{State, state}
use Rattle.record_copy.specs.declared.fault.CopyFault.TheVariants.{Memory}
use Rattle.record_copy.proofs.Passing.{at-err}
use Rattle.record_copy.proofs.Running.{sent-none}
use Rattle.archive_cut.specs.Opened.{opening_calls}
use Rattle.archive_cut.specs.Windows.{stamp_left}
use Rattle.archive_cut.proofs.open.open_node.Given.{Over}
use Rattle.archive_cut.proofs.open.open_node.Goals as goal

abbrev at : (g : Over) → g.row.F.Denot → PlainCursor → Writer → State
at g = (let f = g.F.Folder in state f.files f.draft f.numbers f.faults)

pub returns-in_err-left-clause-sends : goal.returns-in_err-left-clause-sends
returns-in_err-left-clause-sends g c k within =
    let w = c.args.window.now in
    let now = pairs_of c.args.now.now in
    let cs = opening_calls c.args.kind (shown_label c.args.label) now (stamp_left w.first w.last now (stamp_view c.args.stamp.now)) in
    let s = at g c.args.folder.now k c.args.writer.now in
    at-err c.from_residual.result Memory c.from_residual.ensures.1 (λ z. Sent cs s s (fault_of z)) (sent-none s cs (g.met.F.Folder.metered c.args.folder.now) within)
