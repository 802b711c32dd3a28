use Rattle.std.proofs.Common.{◌-◌, ◌*◌, ◌+◌}
use Rattle.record_writer.specs.Data.{PlainWriter}
use Rattle.record_copy.specs.State.{beside}
use Rattle.archive_cut.proofs.Skips.{RowOn}
use Rattle.archive_cut.proofs.skip.+skip.Given as goal

abbrev pub decreases-skip_child : goal.decreases-skip_child
decreases-skip_child g l = 2 * (l.cursor.now.length - l.cursor.now.at)

abbrev pub decreases-skip_row : goal.decreases-skip_row
decreases-skip_row g l = 2 * (l.cursor.now.length - l.cursor.now.at) + 1

-- so many nodes were passed over
abbrev pub invariant-skip_row-loop : goal.invariant-skip_row-loop
invariant-skip_row-loop g l =
    let f = g.F.Folder in
    (w : PlainWriter) → RowOn (beside f.files f.draft f.numbers f.faults l.fn.folder l.fn.cursor w) (beside f.files f.draft f.numbers f.faults l.folder l.cursor w)

abbrev pub decreases-skip_row-loop : goal.decreases-skip_row-loop
decreases-skip_row-loop g l = l.cursor.length - l.cursor.at
