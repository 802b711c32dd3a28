use Rattle.std.proofs.Common.{sym, ap}
use Rattle.version_set.specs.View.{pairs_of}
use Rattle.keyed_parts.specs.View.{kids_view}
use Rattle.archive_tree.specs.Data.{Stamp}
use Rattle.stream_merge.specs.Passes.{fault_of}
use Rattle.record_copy.specs.State.{State, state}
use Rattle.stream_merge.proofs.Puts.{fresh_calls, sent-as}
use Rattle.stream_merge.proofs.fresh.put_started.Goals as goal

pub returns : goal.returns
returns g c = record {
  sends = λ c' within. (
      let f = g.F.Folder in
      let s : State = state f.files f.draft f.numbers f.faults c.args.folder.now c' c.args.writer.now in
      let t : State = state f.files f.draft f.numbers f.faults c.put_kids.new.folder c' c.put_kids.new.writer in
      sent-as s t (fault_of c.put_kids.result) _ _ (ap (λ (z : Stamp). fresh_calls (pairs_of c.args.from.now.now) z (kids_view c.args.kids)) (sym c.started_stamp-stamp.ensures)) (c.put_kids.ensures.sends c' within));
}
