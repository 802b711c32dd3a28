use Rattle.std.proofs.Common.{◌≤◌}
use Rattle.xarch_run.specs.Feed.{ahead, budget}
use Rattle.xarch_run.specs.Stays.{Stays}
use Rattle.xarch_run.proofs.BatchLemmas.{SoFar}
use Rattle.xarch_run.proofs.batch.run_batch.Given as goal

abbrev pub invariant-loop-ended : goal.invariant-loop-ended
invariant-loop-ended g l =
    record {
      so_far :
          SoFar (g.F.Folder.files l.fn.folder) (g.F.Folder.files l.folder) (g.O.Sink.taken l.fn.out) (g.O.Sink.taken l.out) (g.E.Sink.taken l.fn.err) (g.E.Sink.taken l.err)
          (g.E.Sink.faults l.fn.err) (g.E.Sink.faults l.err) (g.S.Source.rest l.fn.input) (ahead l.lines.feed (g.S.Source.rest l.input)) (budget l.lines.feed);
      folder : Stays g.F.Folder.files g.F.Folder.draft g.F.Folder.faults l.fn.folder l.folder;
      input_later : g.S.Source.faults l.fn.input ≤ g.S.Source.faults l.input;
      out_later : g.O.Sink.faults l.fn.out ≤ g.O.Sink.faults l.out;
    }

abbrev pub decreases-loop-ended : goal.decreases-loop-ended
decreases-loop-ended g l = budget l.lines.feed
