use Rattle.std.proofs.Common.{◌≤◌, take}
use Rattle.std.specs.List.{flat_map}
use Rattle.xa_outside.specs.Taken.{Takes}
use Rattle.xa_outside.proofs.pieces.put_pieces.Given as goal

abbrev pub invariant-loop-piece : goal.invariant-loop-piece
invariant-loop-piece g l =
    record {
      bytes : Takes (g.K.Sink.taken l.initial.sink) (g.K.Sink.taken l.sink) (flat_map (λ p. p.now) (take l.piece-index l.pieces));
      later : g.K.Sink.faults l.initial.sink ≤ g.K.Sink.faults l.sink;
    }
