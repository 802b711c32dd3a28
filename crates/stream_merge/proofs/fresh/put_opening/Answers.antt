use Rattle.std.proofs.Common.{[], ◌∷◌, ap, subst, sym, ◌≡◌, ◌∙◌}
use Rattle.archive_tree.specs.View.{stamp_view}
use Rattle.version_set.specs.View.{pairs_of}
use Rattle.keyed_tree.specs.Data.{PlainLabel, label_of}
use Rattle.keyed_parts.specs.View.{kid_view}
use Rattle.record_parts.specs.Shapes.{IsShapedLabel}
use Rattle.stream_merge.specs.Meets.{call_of}
use Rattle.stream_merge.specs.Passes.{fault_of}
use Rattle.record_copy.specs.State.{State, state}
use Rattle.stream_merge.proofs.Puts.{label-given, sent-as}
use Rattle.stream_merge.proofs.fresh.put_opening.Goals as goal

pub begin_node-requires-clause-shaped : goal.begin_node-requires-clause-shaped
begin_node-requires-clause-shaped g c =
    subst IsShapedLabel (sym (label-given c.name.result c.as_slice.result.now (label_of (kid_view c.args.kid)) c.name.ensures (c.as_slice.ensures ∙ c.keys-keys.ensures))) c.requires.shaped

pub returns : goal.returns
returns g c = record {
  sends = λ c' within. (
      let f = g.F.Folder in
      let st = stamp_view c.args.stamp.now in
      let set = pairs_of c.args.set.now in
      let s : State = state f.files f.draft f.numbers f.faults c.args.folder.now c' c.args.writer.now in
      let t : State = state f.files f.draft f.numbers f.faults c.begin_node.new.folder c' c.begin_node.new.writer in
      let is = label-given c.name.result c.as_slice.result.now (label_of (kid_view c.args.kid)) c.name.ensures (c.as_slice.ensures ∙ c.keys-keys.ensures) in
      sent-as s t (fault_of c.begin_node.result) _ _ (ap (λ (l : PlainLabel). call_of c.args.kind l st set ∷ []) (sym is)) (c.begin_node.ensures.sends c' within));
}
