use Rattle.std.proofs.Common.{◌≤◌}
use Rattle.xarch_run.specs.Feed.{budget}
use Rattle.xarch_run.proofs.LineReading.{InLine}
use Rattle.xarch_run.proofs.lines.Lines.next.Given as goal

abbrev pub invariant-loop-self : goal.invariant-loop-self
invariant-loop-self g l =
    record {
      line : InLine l.fn.self l.self (g.S.Source.rest l.fn.input) (g.S.Source.rest l.input);
      later : g.S.Source.faults l.fn.input ≤ g.S.Source.faults l.input;
    }

abbrev pub decreases-loop-self : goal.decreases-loop-self
decreases-loop-self g l = budget l.self.feed
