use Rattle.std.proofs.Common.{◌-◌, ◌*◌, ◌+◌}
use Rattle.version_set.specs.View.{pairs_of}
use Rattle.record_copy.specs.State.{state}
use Rattle.archive_cut.proofs.Walking.{RowOn}
use Rattle.archive_cut.proofs.walk.+walk.Given as goal

abbrev pub decreases-cut_child : goal.decreases-cut_child
decreases-cut_child g l = 4 * (l.cursor.now.length - l.cursor.now.at)

abbrev pub decreases-cut_row : goal.decreases-cut_row
decreases-cut_row g l = 4 * (l.cursor.now.length - l.cursor.now.at) + 1

abbrev pub decreases-cut_inner : goal.decreases-cut_inner
decreases-cut_inner g l = 4 * (l.cursor.now.length - l.cursor.now.at) + 2

abbrev pub decreases-cut_begun : goal.decreases-cut_begun
decreases-cut_begun g l = 4 * (l.cursor.now.length - l.cursor.now.at) + 3

abbrev pub decreases-cut_opened : goal.decreases-cut_opened
decreases-cut_opened g l = 4 * (l.cursor.now.length - l.cursor.now.at) + 4

-- so many nodes were cut
abbrev pub invariant-cut_row-loop : goal.invariant-cut_row-loop
invariant-cut_row-loop g l =
    let f = g.F.Folder in
    RowOn l.fn.window.first l.fn.window.last (pairs_of l.fn.before) (state f.files f.draft f.numbers f.faults l.fn.folder l.fn.cursor l.fn.writer) (state f.files f.draft f.numbers f.faults l.folder l.cursor l.writer)

abbrev pub decreases-cut_row-loop : goal.decreases-cut_row-loop
decreases-cut_row-loop g l = l.cursor.length - l.cursor.at
