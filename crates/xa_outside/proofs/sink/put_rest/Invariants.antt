use Rattle.std.proofs.Common.{◌-◌, ◌≤◌, take, length}
use Rattle.xa_outside.specs.Taken.{Takes}
use Rattle.xa_outside.proofs.sink.put_rest.Given as goal

abbrev pub invariant-loop-done : goal.invariant-loop-done
invariant-loop-done g l =
    record {
      within : l.done ≤ length l.piece;
      bytes : Takes (g.K.Sink.taken l.initial.sink) (g.K.Sink.taken l.sink) (take l.done l.piece);
      later : g.K.Sink.faults l.initial.sink ≤ g.K.Sink.faults l.sink;
    }

abbrev pub decreases-loop-done : goal.decreases-loop-done
decreases-loop-done g l = length l.piece - l.done
