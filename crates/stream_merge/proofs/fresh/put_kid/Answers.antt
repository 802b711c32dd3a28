use Rattle.std.proofs.Common.{[], ◌∷◌, sym, ap, ◌∙◌}
use Rattle.version_set.specs.View.{pairs_of}
use Rattle.keyed_parts.specs.View.{kid_view}
use Rattle.archive_tree.specs.Data.{Stamp}
use Rattle.archive_tree.specs.View.{stamp_view}
use Rattle.stream_merge.specs.Passes.{fault_of}
use Rattle.record_copy.specs.State.{State, state}
use Rattle.stream_merge.proofs.Puts.{calls-alone, fresh_calls, sent-as}
use Rattle.stream_merge.proofs.fresh.put_kid.Goals as goal

pub returns : goal.returns
returns g c = record {
  sends = λ c' within. (
      let f = g.F.Folder in
      let k = kid_view c.args.kid in
      let set = pairs_of c.args.from.now.now in
      let s : State = state f.files f.draft f.numbers f.faults c.args.folder.now c' c.args.writer.now in
      let t : State = state f.files f.draft f.numbers f.faults c.put_node.new.folder c' c.put_node.new.writer in
      let stamp = c.started_stamp-stamp in
      sent-as s t (fault_of c.put_node.result) _ _ (ap (λ (z : Stamp). fresh_calls set z (k ∷ [])) (sym stamp.ensures) ∙ calls-alone set (stamp_view stamp.result) k) (c.put_node.ensures.sends c' within));
}
