use Rattle.std.proofs.Common.{◌-◌, ◌≤◌, take, length}
use Rattle.xa_outside.specs.Taken.{Takes}
use Rattle.json.specs.Print.{escape}
use Rattle.jsonml_print.proofs.quote.write_runs.Given as goal

abbrev pub invariant-loop-done : goal.invariant-loop-done
invariant-loop-done g l =
    record {
      within : l.done ≤ length l.bytes;
      bytes : Takes (g.K.Sink.taken l.initial.sink) (g.K.Sink.taken l.sink) (escape (take l.done l.bytes));
      later : g.K.Sink.faults l.initial.sink ≤ g.K.Sink.faults l.sink;
    }

abbrev pub decreases-loop-done : goal.decreases-loop-done
decreases-loop-done g l = length l.bytes - l.done
