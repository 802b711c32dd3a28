use Rattle.std.proofs.Common.{◌≤◌, take, None}
use Rattle.version_set.specs.View.{pairs_of}
use Rattle.record_copy.specs.Runs.{Sent}
use Rattle.record_copy.specs.State.{state}
use Rattle.record_cursor.specs.View.{PlainCursor}
use Rattle.archive_join.proofs.Leafing.{left_calls}
use Rattle.archive_join.proofs.leaf.put_others.Given as goal

-- so many alternatives were written
abbrev pub invariant-loop-alternative : goal.invariant-loop-alternative
invariant-loop-alternative g l =
    let f = g.F.Folder in
    (c : PlainCursor) → c.at ≤ c.length → Sent (left_calls (pairs_of l.fn.own.one) (pairs_of l.fn.own.two) (take l.alternative-index l.alternative-items)) (state f.files f.draft f.numbers f.faults l.fn.folder c l.fn.writer) (state f.files f.draft f.numbers f.faults l.folder c l.writer) None
