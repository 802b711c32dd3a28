use Rattle.std.proofs.Common.{[], ◌∷◌, Option, ap, subst}
use Rattle.archive_tree.specs.View.{stamp_view}
use Rattle.version_set.specs.View.{pairs_of}
use Rattle.record_parts.specs.ShownViews.{shown_label}
use Rattle.record_writer.specs.Data.{call_inner, call_leaf}
use Rattle.record_copy.specs.Passes.{call_of}
use Rattle.record_copy.specs.Runs.{Sent}
use Rattle.record_copy.specs.State.{State, state}
use Rattle.record_copy.specs.declared.kind.Kind.{Kind}
use Rattle.record_copy.specs.declared.fault.CopyFault.{CopyFault}
use Rattle.record_copy.proofs.Running.{written, called, call-sends, sent-as}
use Rattle.archive_cut.proofs.open.begin_node.Goals as goal

pub returns-in-Inner : goal.returns-in-Inner
returns-in-Inner g c = record {
  sends = λ k within. (
      let f = g.F.Folder in
      let l = shown_label c.args.label in
      let st = stamp_view c.args.stamp.now in
      let set = pairs_of c.args.set.now in
      let s : State = state f.files f.draft f.numbers f.faults c.args.folder.now k c.args.writer.now in
      let t : State = state f.files f.draft f.numbers f.faults c.inner.new.folder k c.inner.new.self in
      let e = c.inner.ensures in
      let sent = call-sends f.files f.draft f.numbers f.faults c.args.folder.now c.inner.new.folder k c.args.writer.now c.inner.new.self (call_inner l st set) c.inner.result (g.met.F.Folder.metered c.args.folder.now) within e.folder e.after e.too_long in
      subst (λ (o : Option CopyFault). Sent (call_of c.args.kind l st set ∷ []) s t o) (called c.inner.result c.written.result c.written.ensures)
      (sent-as s t (written c.inner.result) _ _ (ap (λ (z : Kind). call_of z l st set ∷ []) c.in-Inner.is) sent));
}

pub returns-in-Leaf : goal.returns-in-Leaf
returns-in-Leaf g c = record {
  sends = λ k within. (
      let f = g.F.Folder in
      let l = shown_label c.args.label in
      let st = stamp_view c.args.stamp.now in
      let set = pairs_of c.args.set.now in
      let s : State = state f.files f.draft f.numbers f.faults c.args.folder.now k c.args.writer.now in
      let t : State = state f.files f.draft f.numbers f.faults c.leaf.new.folder k c.leaf.new.self in
      let e = c.leaf.ensures in
      let sent = call-sends f.files f.draft f.numbers f.faults c.args.folder.now c.leaf.new.folder k c.args.writer.now c.leaf.new.self (call_leaf l st set) c.leaf.result (g.met.F.Folder.metered c.args.folder.now) within e.folder e.after e.too_long in
      subst (λ (o : Option CopyFault). Sent (call_of c.args.kind l st set ∷ []) s t o) (called c.leaf.result c.written-in-Leaf.result c.written-in-Leaf.ensures)
      (sent-as s t (written c.leaf.result) _ _ (ap (λ (z : Kind). call_of z l st set ∷ []) c.in-Leaf.is) sent));
}
