use Rattle.std.proofs.Common.{◌-◌, ◌*◌, ◌+◌}
use Rattle.version_set.specs.View.{pairs_of}
use Rattle.record_copy.specs.State.{state}
use Rattle.stream_merge.proofs.CopiedRows.{RowOn}
use Rattle.stream_merge.proofs.copy.+copy.Given as goal

abbrev pub decreases-copy_child : goal.decreases-copy_child
decreases-copy_child g l = 4 * (l.cursor.now.length - l.cursor.now.at)

abbrev pub decreases-copy_row : goal.decreases-copy_row
decreases-copy_row g l = 4 * (l.cursor.now.length - l.cursor.now.at) + 1

abbrev pub decreases-copy_inner : goal.decreases-copy_inner
decreases-copy_inner g l = 4 * (l.cursor.now.length - l.cursor.now.at) + 2

abbrev pub decreases-copy_begun : goal.decreases-copy_begun
decreases-copy_begun g l = 4 * (l.cursor.now.length - l.cursor.now.at) + 3

-- so many nodes were copied
abbrev pub invariant-copy_row-loop : goal.invariant-copy_row-loop
invariant-copy_row-loop g l =
    let f = g.F.Folder in
    RowOn (pairs_of l.set) (state f.files f.draft f.numbers f.faults l.fn.folder l.fn.cursor l.fn.writer) (state f.files f.draft f.numbers f.faults l.folder l.cursor l.writer)

abbrev pub decreases-copy_row-loop : goal.decreases-copy_row-loop
decreases-copy_row-loop g l = l.cursor.length - l.cursor.at
