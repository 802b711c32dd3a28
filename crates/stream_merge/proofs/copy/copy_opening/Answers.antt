use Rattle.std.proofs.Common.{[], ◌∷◌, None, Some}
use Rattle.archive_tree.specs.View.{stamp_view}
use Rattle.version_set.specs.View.{pairs_of}
use Rattle.record_cursor.specs.View.{PlainCursor}
use Rattle.record_format.specs.Nodes.{set_in}
use Rattle.record_parts.specs.ShownViews.{shown_label, shown_stamp}
use Rattle.record_writer.specs.declared.writer.Writer.{Writer}
use Rattle.stream_merge.specs.Meets.{call_of}
use Rattle.record_copy.specs.State.{State, state}
use Rattle.stream_merge.specs.declared.fault.MergeFault.TheVariants.{Memory}
use Rattle.stream_merge.proofs.States.{sent-none}
use Rattle.stream_merge.proofs.Handed.{sent-handed}
use Rattle.stream_merge.proofs.Puts.{sent-as, stored-call}
use Rattle.stream_merge.proofs.copy.copy_opening.Given.{Over}
use Rattle.stream_merge.proofs.copy.copy_opening.Goals as goal

abbrev at : (g : Over) → g.row.F.Denot → PlainCursor → Writer → State
at g = (let f = g.F.Folder in state f.files f.draft f.numbers f.faults)

pub returns-in_err-stamp-clause-sends : goal.returns-in_err-stamp-clause-sends
returns-in_err-stamp-clause-sends g c k within =
    let stamp = shown_stamp c.args.stamp in
    let calls = call_of c.args.kind (shown_label c.args.label) stamp (set_in stamp (pairs_of c.args.parent.now)) ∷ [] in
    let s = at g c.args.folder.now k c.args.writer.now in
    sent-handed c.from_residual.result Memory c.from_residual.ensures.1 calls s s (sent-none s calls (g.met.F.Folder.metered c.args.folder.now) within)

pub returns-in_err-begin_node-clause-sends : goal.returns-in_err-begin_node-clause-sends
returns-in_err-begin_node-clause-sends g c k within =
    let stored = c.in_ok-stamp in
    let same = stored-call c.args.kind (shown_label c.args.label) (stamp_view stored.stamp) (shown_stamp c.args.stamp) (pairs_of c.args.parent.now) (pairs_of c.effective-set.result.now) stored.ensures c.effective-set.ensures.pairs in
    let e = c.in_err-begin_node in
    let r = c.from_residual-in_err-begin_node in
    let b = c.begin_node in
    let s = at g c.args.folder.now k c.args.writer.now in
    let t = at g b.new.folder k b.new.writer in
    sent-handed r.result e.field-0.0 r.ensures.1 _ s t (sent-as s t (Some e.field-0.0) _ _ same (e.ensures.sends k within))

pub returns-clause-sends : goal.returns-clause-sends
returns-clause-sends g c k within =
    let stored = c.in_ok-stamp in
    let same = stored-call c.args.kind (shown_label c.args.label) (stamp_view stored.stamp) (shown_stamp c.args.stamp) (pairs_of c.args.parent.now) (pairs_of c.effective-set.result.now) stored.ensures c.effective-set.ensures.pairs in
    let b = c.begin_node in
    sent-as (at g c.args.folder.now k c.args.writer.now) (at g b.new.folder k b.new.writer) None _ _ same (c.in_ok-begin_node.ensures.sends k within)

pub returns-in_err-stamp-clause-fits : goal.returns-in_err-stamp-clause-fits
returns-in_err-stamp-clause-fits g c = c.bytes-spelled.ensures.fits

pub returns-in_err-begin_node-clause-fits : goal.returns-in_err-begin_node-clause-fits
returns-in_err-begin_node-clause-fits g c = c.bytes-spelled.ensures.fits

pub returns-clause-fits : goal.returns-clause-fits
returns-clause-fits g c = c.bytes-spelled.ensures.fits
