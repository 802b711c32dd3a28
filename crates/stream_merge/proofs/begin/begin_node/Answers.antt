use Rattle.std.proofs.Common.{[], ◌∷◌, Option, subst}
use Rattle.archive_tree.specs.View.{stamp_view}
use Rattle.version_set.specs.View.{pairs_of}
use Rattle.record_writer.specs.Data.{call_inner, call_leaf}
use Rattle.record_writer.specs.Given.{given_label}
use Rattle.stream_merge.specs.Does.{Sent}
use Rattle.stream_merge.specs.Meets.{call_of}
use Rattle.record_copy.specs.State.{State, state}
use Rattle.stream_merge.specs.declared.begin.Kind.TheVariants.{Inner, Leaf}
use Rattle.stream_merge.specs.declared.fault.MergeFault.{MergeFault}
use Rattle.stream_merge.proofs.Handed.{called}
use Rattle.stream_merge.proofs.Puts.{call-is, call-sent, sent-as}
use Rattle.stream_merge.proofs.States.{written}
use Rattle.stream_merge.proofs.begin.begin_node.Goals as goal

pub returns-in-Inner : goal.returns-in-Inner
returns-in-Inner g c = record {
  sends = λ c' within. (
      let f = g.F.Folder in
      let l = given_label c.args.label in
      let st = stamp_view c.args.stamp.now in
      let set = pairs_of c.args.set.now in
      let s : State = state f.files f.draft f.numbers f.faults c.args.folder.now c' c.args.writer.now in
      let t : State = state f.files f.draft f.numbers f.faults c.inner.new.folder c' c.inner.new.self in
      let e = c.inner.ensures in
      let sent = call-sent f.files f.draft f.numbers f.faults g.met.F.Folder.metered c' within c.args.folder.now c.inner.new.folder c.args.writer.now c.inner.new.self (call_inner l st set) c.inner.result e.folder e.after e.too_long in
      subst (λ (o : Option MergeFault). Sent (call_of c.args.kind l st set ∷ []) s t o) (called c.inner.result c.written.result c.written.ensures) (sent-as s t (written c.inner.result) _ _ (call-is c.args.kind Inner l st set c.in-Inner.is) sent));
}

pub returns-in-Leaf : goal.returns-in-Leaf
returns-in-Leaf g c = record {
  sends = λ c' within. (
      let f = g.F.Folder in
      let l = given_label c.args.label in
      let st = stamp_view c.args.stamp.now in
      let set = pairs_of c.args.set.now in
      let s : State = state f.files f.draft f.numbers f.faults c.args.folder.now c' c.args.writer.now in
      let t : State = state f.files f.draft f.numbers f.faults c.leaf.new.folder c' c.leaf.new.self in
      let e = c.leaf.ensures in
      let sent = call-sent f.files f.draft f.numbers f.faults g.met.F.Folder.metered c' within c.args.folder.now c.leaf.new.folder c.args.writer.now c.leaf.new.self (call_leaf l st set) c.leaf.result e.folder e.after e.too_long in
      subst (λ (o : Option MergeFault). Sent (call_of c.args.kind l st set ∷ []) s t o) (called c.leaf.result c.written-in-Leaf.result c.written-in-Leaf.ensures) (sent-as s t (written c.leaf.result) _ _ (call-is c.args.kind Leaf l st set c.in-Leaf.is) sent));
}
