use Rattle.std.proofs.Common.{◌≤◌, map, take, None}
use Rattle.record_cursor.specs.View.{PlainCursor}
use Rattle.record_writer.specs.Walks.{alt_calls}
use Rattle.record_copy.specs.Runs.{Sent}
use Rattle.record_copy.specs.State.{state}
use Rattle.archive_cut.specs.Held.{held_view}
use Rattle.archive_cut.proofs.leaf.put_held.Given as goal

-- so many alternatives were written
abbrev pub invariant-loop-alternative : goal.invariant-loop-alternative
invariant-loop-alternative g l =
    let f = g.F.Folder in
    (c : PlainCursor) → c.at ≤ c.length → Sent (alt_calls (map held_view (take l.alternative-index l.held))) (state f.files f.draft f.numbers f.faults l.fn.folder c l.fn.writer) (state f.files f.draft f.numbers f.faults l.folder c l.writer) None
