use Rattle.std.proofs.Common.{◌≤◌, take}
use Rattle.xa_outside.specs.Taken.{Takes}
use Rattle.key_spec.specs.Names.{slashed}
use Rattle.key_spec.specs.View.{names_view}
use Rattle.xarch_words.proofs.line.put_tags.Given as goal

abbrev pub invariant-loop-tag : goal.invariant-loop-tag
invariant-loop-tag g l =
    record {
      bytes : Takes (g.E.Sink.taken l.initial.err) (g.E.Sink.taken l.err) (slashed (take l.tag-index (names_view l.tags)));
      later : g.E.Sink.faults l.initial.err ≤ g.E.Sink.faults l.err;
    }
