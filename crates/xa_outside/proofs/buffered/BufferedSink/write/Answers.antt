use Rattle.std.proofs.Common.{subst, sym}
use Rattle.std.proofs.Math.Seq.{take-length}
use Rattle.xa_outside.specs.Taken.{Takes}
use Rattle.xa_outside.specs.Buffered.{buffered_taken}
use Rattle.xa_outside.proofs.BufferedLemmas.{Takes-held}
use Rattle.xa_outside.proofs.buffered.BufferedSink.write.Goals as goal

pub returns-then-has_room-clause-bytes : goal.returns-then-has_room-clause-bytes
returns-then-has_room-clause-bytes g c =
    let old = c.args.self.now in
    let piece = c.args.piece.now in
    let t = buffered_taken g.O.Sink.taken old in
    let u = buffered_taken g.O.Sink.taken (record { out = old.out; held = c.add.new.self }) in
    subst (Takes t u) (sym (take-length piece)) (Takes-held _ _ _ _ piece c.add.ensures)
