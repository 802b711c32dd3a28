use Rattle.std.proofs.Common.{[], ◌∷◌, Option, subst}
use Rattle.archive_tree.specs.Data.{Stamp}
use Rattle.archive_tree.specs.View.{stamp_view}
use Rattle.record_cursor.specs.View.{PlainCursor}
use Rattle.record_parts.specs.ShownViews.{shown_stamp, shown_body}
use Rattle.record_writer.specs.Data.{call_alt}
use Rattle.record_writer.specs.declared.writer.Writer.{Writer}
use Rattle.stream_merge.specs.Does.{Sent}
use Rattle.record_copy.specs.State.{State, state}
use Rattle.stream_merge.specs.declared.fault.MergeFault.{MergeFault}
use Rattle.stream_merge.specs.declared.fault.MergeFault.TheVariants.{Memory}
use Rattle.stream_merge.proofs.States.{written, call-sends, sent-none}
use Rattle.stream_merge.proofs.Handed.{sent-handed, called}
use Rattle.stream_merge.proofs.copy.copy_alt.Given.{Over}
use Rattle.stream_merge.proofs.copy.copy_alt.Goals as goal

abbrev at : (g : Over) → g.row.F.Denot → PlainCursor → Writer → State
at g = (let f = g.F.Folder in state f.files f.draft f.numbers f.faults)

pub returns-in_err-stamp : goal.returns-in_err-stamp
returns-in_err-stamp g c = record {
  sends = λ k within. (
      let calls = call_alt (shown_stamp c.args.stamp) (shown_body c.args.body) ∷ [] in
      let s = at g c.args.folder.now k c.args.writer.now in
      sent-handed c.from_residual.result Memory c.from_residual.ensures.1 calls s s (sent-none s calls (g.met.F.Folder.metered c.args.folder.now) within));
  fits = c.bytes-spelled.ensures.fits;
}

pub returns : goal.returns
returns g c = record {
  sends = λ k within. (
      let f = g.F.Folder in
      let e = c.alt.ensures in
      let body = shown_body c.args.body in
      let s = at g c.args.folder.now k c.args.writer.now in
      let t = at g c.alt.new.folder k c.alt.new.self in
      let sent = call-sends f.files f.draft f.numbers f.faults c.args.folder.now c.alt.new.folder k c.args.writer.now c.alt.new.self (call_alt (stamp_view c.in_ok-stamp.stamp) body) c.alt.result (g.met.F.Folder.metered c.args.folder.now) within e.folder e.after e.too_long in
      subst (λ (o : Option MergeFault). Sent (call_alt (shown_stamp c.args.stamp) body ∷ []) s t o) (called c.alt.result c.written.result c.written.ensures)
      (subst (λ (st : Stamp). Sent (call_alt st body ∷ []) s t (written c.alt.result)) c.in_ok-stamp.ensures sent));
  fits = c.bytes-spelled.ensures.fits;
}
