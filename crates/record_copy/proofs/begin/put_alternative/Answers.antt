use Rattle.std.proofs.Common.{◌≡◌, [], ◌∷◌, Option, Some, sym, ap, subst, ◌∙◌}
use Rattle.archive_tree.specs.View.{stamp_view}
use Rattle.keyed_tree.specs.Data.{PlainKey}
use Rattle.xa_fields.specs.Reading.{whole}
use Rattle.record_parts.specs.Reading.{value_at}
use Rattle.record_parts.specs.ShownViews.{shown_body, value_in}
use Rattle.record_writer.specs.Data.{call_alt}
use Rattle.record_copy.specs.Parts.{alternative_view}
use Rattle.record_copy.specs.Runs.{Sent}
use Rattle.record_copy.specs.State.{State, state}
use Rattle.record_copy.specs.declared.fault.CopyFault.{CopyFault}
use Rattle.record_copy.proofs.Running.{written, called, call-sends, sent-as}
use Rattle.record_copy.proofs.begin.put_alternative.Goals as goal

shows : (b : PlainKey) (o : Option PlainKey) → Some b ≡ o → b ≡ value_in o
shows b o e = ap value_in e

pub returns : goal.returns
returns g c k within =
    let f = g.F.Folder in
    let a = alternative_view c.args.alternative.now in
    let b = shown_body c.lend_body.result in
    let body : a.body ≡ b = sym (shows b (whole value_at c.args.alternative.now.body.items) (c.lend_body.ensures ∙ ap (whole value_at) c.deref.ensures.value)) in
    let st = stamp_view c.args.stamp.now in
    let s : State = state f.files f.draft f.numbers f.faults c.args.folder.now k c.args.writer.now in
    let t : State = state f.files f.draft f.numbers f.faults c.alt.new.folder k c.alt.new.self in
    let e = c.alt.ensures in
    let sent = call-sends f.files f.draft f.numbers f.faults c.args.folder.now c.alt.new.folder k c.args.writer.now c.alt.new.self (call_alt st b) c.alt.result (g.met.F.Folder.metered c.args.folder.now) within e.folder e.after e.too_long in
    subst (λ (o : Option CopyFault). Sent (call_alt st a.body ∷ []) s t o) (called c.alt.result c.written.result c.written.ensures)
    (sent-as s t (written c.alt.result) _ _ (ap (λ z. call_alt st z ∷ []) body) sent)
