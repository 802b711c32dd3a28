use Rattle.xa_outside.specs.TakenLaws.{Writes-after_none}
use Rattle.xa_outside.proofs.BufferedLemmas.{Writes-passed}
use Rattle.xa_outside.proofs.buffered.Buffered.write_through.Goals as goal

pub returns-clause-bytes : goal.returns-clause-bytes
returns-clause-bytes g c = Writes-after_none _ _ _ c.write.result c.args.piece.now c.in_ok-pass_on.ensures.bytes (Writes-passed _ _ _ _ c.write.result c.args.piece.now c.in_ok-pass_on.ensures.empty c.write.ensures.bytes)
