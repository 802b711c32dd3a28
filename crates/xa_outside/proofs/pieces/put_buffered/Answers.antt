use Rattle.std.proofs.Common.{rules}
use Rattle.xa_outside.specs.BufferedLaws.{Puts-unflushed, Puts-flushed}
use Rattle.xa_outside.proofs.pieces.put_buffered.Goals as goal

pub returns-in_err-put_pieces-clause-bytes : goal.returns-in_err-put_pieces-clause-bytes
returns-in_err-put_pieces-clause-bytes g c =
    Puts-unflushed g.O.Sink.taken c.new-buffered.result c.put_pieces.new.sink c.args.out.now _ c.from_residual.result _ (search rules) (search rules) (search rules) c.in_err-put_pieces.ensures.bytes (search rules)

pub returns-clause-bytes : goal.returns-clause-bytes
returns-clause-bytes g c =
    Puts-flushed g.O.Sink.taken c.new-buffered.result c.put_pieces.new.sink c.args.out.now _ c.flush.new.self c.flush.result _ (search rules) (search rules) c.in_ok-put_pieces.ensures.bytes c.flush.ensures.bytes c.flush.ensures.empty (search rules)
