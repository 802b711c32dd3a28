use Rattle.std.proofs.Common.{◌≤◌, take}
use Rattle.std.specs.List.{flat_map}
use Rattle.xa_outside.specs.Taken.{Takes}
use Rattle.xarch_words.specs.Lines.{step_text}
use Rattle.xarch_words.proofs.line.put_steps.Given as goal

abbrev pub invariant-loop-step : goal.invariant-loop-step
invariant-loop-step g l =
    record {
      bytes : Takes (g.E.Sink.taken l.initial.err) (g.E.Sink.taken l.err) (flat_map step_text (take l.step-index l.steps));
      later : g.E.Sink.faults l.initial.err ≤ g.E.Sink.faults l.err;
    }
