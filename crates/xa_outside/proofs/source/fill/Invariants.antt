use Rattle.std.proofs.Common.{◌-◌, ◌≤◌, take, length}
use Rattle.std.specs.Io.KnownBytes.{Consumes}
use Rattle.xa_outside.proofs.source.fill.Given as goal

abbrev pub invariant-loop-done : goal.invariant-loop-done
invariant-loop-done g l =
    record {
      within : l.done ≤ length l.buf;
      bytes : Consumes (g.S.Source.rest l.initial.src) (g.S.Source.rest l.src) (take l.done l.buf);
      later : g.S.Source.faults l.initial.src ≤ g.S.Source.faults l.src;
    }

abbrev pub decreases-loop-done : goal.decreases-loop-done
decreases-loop-done g l = length l.initial.buf - l.done
