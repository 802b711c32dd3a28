use Rattle.std.proofs.Common.{◌-◌, ◌≤◌, take, length}
use Rattle.xa_outside.specs.Taken.{Takes}
use Rattle.xa_outside.proofs.buffered.write_out.Given as goal

abbrev pub invariant-loop-written : goal.invariant-loop-written
invariant-loop-written g l =
    record {
      within : l.written ≤ length l.bytes;
      bytes : Takes (g.O.Sink.taken l.initial.to) (g.O.Sink.taken l.to) (take l.written l.bytes);
      later : g.O.Sink.faults l.initial.to ≤ g.O.Sink.faults l.to;
    }

abbrev pub decreases-loop-written : goal.decreases-loop-written
decreases-loop-written g l = length l.bytes - l.written
