use Rattle.std.proofs.Common.{[], ◌∷◌, Option, None, subst}
use Rattle.keyed_tree.specs.LentView.{lent_val_view}
use Rattle.record_writer.specs.Data.{call_alt}
use Rattle.stream_merge.specs.Does.{Sent}
use Rattle.record_copy.specs.State.{State, state}
use Rattle.stream_merge.specs.declared.fault.MergeFault.{MergeFault}
use Rattle.stream_merge.proofs.Handed.{called}
use Rattle.stream_merge.proofs.Puts.{call-sent}
use Rattle.stream_merge.proofs.fresh.put_body.Goals as goal

pub returns : goal.returns
returns g c = record {
  sends = λ c' within. (
      let f = g.F.Folder in
      let b = lent_val_view c.args.body in
      let s : State = state f.files f.draft f.numbers f.faults c.args.folder.now c' c.args.writer.now in
      let t : State = state f.files f.draft f.numbers f.faults c.alt.new.folder c' c.alt.new.self in
      let e = c.alt.ensures in
      let sent = call-sent f.files f.draft f.numbers f.faults g.met.F.Folder.metered c' within c.args.folder.now c.alt.new.folder c.args.writer.now c.alt.new.self (call_alt None b) c.alt.result e.folder e.after e.too_long in
      subst (λ (o : Option MergeFault). Sent (call_alt None b ∷ []) s t o) (called c.alt.result c.written.result c.written.ensures) sent);
}
