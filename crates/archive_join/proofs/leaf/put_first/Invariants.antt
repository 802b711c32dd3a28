use Rattle.std.proofs.Common.{◌-◌}
use Rattle.version_set.specs.View.{pairs_of}
use Rattle.record_copy.specs.State.{state}
use Rattle.archive_join.proofs.Alternating.{PutOn}
use Rattle.archive_join.proofs.leaf.put_first.Given as goal

-- so many alternatives were written
abbrev pub invariant-loop-alternative : goal.invariant-loop-alternative
invariant-loop-alternative g l =
    let f = g.F.Folder in
    PutOn (pairs_of l.fn.own.one) (pairs_of l.fn.own.two) l.fn.held l.held (state f.files f.draft f.numbers f.faults l.fn.folder l.fn.cursor l.fn.writer) (state f.files f.draft f.numbers f.faults l.folder l.cursor l.writer)

abbrev pub decreases-loop-alternative : goal.decreases-loop-alternative
decreases-loop-alternative g l = l.cursor.length - l.cursor.at
