use Rattle.std.proofs.Common.{◌≡◌, [], ◌∷◌, Option, Some, sym, ap, subst, ◌∙◌}
use Rattle.archive_tree.specs.View.{stamp_view}
use Rattle.keyed_tree.specs.Data.{PlainLabel}
use Rattle.version_set.specs.View.{pairs_of}
use Rattle.xa_fields.specs.Reading.{whole}
use Rattle.record_parts.specs.Reading.{label_at}
use Rattle.record_parts.specs.ShownViews.{label_in, shown_label}
use Rattle.record_writer.specs.Data.{call_inner, call_leaf}
use Rattle.record_copy.specs.Parts.{head_view}
use Rattle.record_copy.specs.Passes.{call_of}
use Rattle.record_copy.specs.Runs.{Sent}
use Rattle.record_copy.specs.State.{State, state}
use Rattle.record_copy.specs.declared.kind.Kind.{Kind}
use Rattle.record_copy.specs.declared.fault.CopyFault.{CopyFault}
use Rattle.record_copy.proofs.Running.{written, called, call-sends, sent-as}
use Rattle.record_copy.proofs.begin.begin_node.Goals as goal

shows : (l : PlainLabel) (o : Option PlainLabel) → Some l ≡ o → l ≡ label_in o
shows l o e = ap label_in e

pub returns-in-Inner : goal.returns-in-Inner
returns-in-Inner g c k within =
    let f = g.F.Folder in
    let h = head_view c.args.head.now in
    let l = shown_label c.lend_label.result in
    let label : h.label ≡ l = sym (shows l (whole label_at c.args.head.now.label.items) (c.lend_label.ensures ∙ ap (whole label_at) c.deref.ensures.value)) in
    let st = stamp_view c.args.stamp.now in
    let set = pairs_of c.args.set.now in
    let s : State = state f.files f.draft f.numbers f.faults c.args.folder.now k c.args.writer.now in
    let t : State = state f.files f.draft f.numbers f.faults c.inner.new.folder k c.inner.new.self in
    let e = c.inner.ensures in
    let sent = call-sends f.files f.draft f.numbers f.faults c.args.folder.now c.inner.new.folder k c.args.writer.now c.inner.new.self (call_inner l st set) c.inner.result (g.met.F.Folder.metered c.args.folder.now) within e.folder e.after e.too_long in
    subst (λ (o : Option CopyFault). Sent (call_of h.kind h.label st set ∷ []) s t o) (called c.inner.result c.written.result c.written.ensures)
    (sent-as s t (written c.inner.result) _ _ (ap (λ z. call_of h.kind z st set ∷ []) label ∙ ap (λ (z : Kind). call_of z l st set ∷ []) c.in-Inner.is) sent)

pub returns-in-Leaf : goal.returns-in-Leaf
returns-in-Leaf g c k within =
    let f = g.F.Folder in
    let h = head_view c.args.head.now in
    let l = shown_label c.lend_label.result in
    let label : h.label ≡ l = sym (shows l (whole label_at c.args.head.now.label.items) (c.lend_label.ensures ∙ ap (whole label_at) c.deref.ensures.value)) in
    let st = stamp_view c.args.stamp.now in
    let set = pairs_of c.args.set.now in
    let s : State = state f.files f.draft f.numbers f.faults c.args.folder.now k c.args.writer.now in
    let t : State = state f.files f.draft f.numbers f.faults c.leaf.new.folder k c.leaf.new.self in
    let e = c.leaf.ensures in
    let sent = call-sends f.files f.draft f.numbers f.faults c.args.folder.now c.leaf.new.folder k c.args.writer.now c.leaf.new.self (call_leaf l st set) c.leaf.result (g.met.F.Folder.metered c.args.folder.now) within e.folder e.after e.too_long in
    subst (λ (o : Option CopyFault). Sent (call_of h.kind h.label st set ∷ []) s t o) (called c.leaf.result c.written-in-Leaf.result c.written-in-Leaf.ensures)
    (sent-as s t (written c.leaf.result) _ _ (ap (λ z. call_of h.kind z st set ∷ []) label ∙ ap (λ (z : Kind). call_of z l st set ∷ []) c.in-Leaf.is) sent)
