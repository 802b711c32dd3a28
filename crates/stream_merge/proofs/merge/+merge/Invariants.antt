use Rattle.std.proofs.Common.{◌-◌, ◌*◌, ◌+◌}
use Rattle.keyed_parts.specs.View.{kids_view}
use Rattle.record_copy.specs.State.{state}
use Rattle.stream_merge.specs.View.{inherited_view}
use Rattle.stream_merge.proofs.MergedRows.{MergeOn}
use Rattle.stream_merge.proofs.merge.+merge.Given as goal

abbrev pub decreases-merge_child : goal.decreases-merge_child
decreases-merge_child g l = 4 * (l.cursor.now.length - l.cursor.now.at)

abbrev pub decreases-merge_row : goal.decreases-merge_row
decreases-merge_row g l = 4 * (l.cursor.now.length - l.cursor.now.at) + 1

abbrev pub decreases-merge_begun : goal.decreases-merge_begun
decreases-merge_begun g l = 4 * (l.cursor.now.length - l.cursor.now.at) + 3

abbrev pub decreases-merge_inner : goal.decreases-merge_inner
decreases-merge_inner g l = 4 * (l.cursor.now.length - l.cursor.now.at) + 2

-- some nodes were merged
abbrev pub invariant-merge_row-loop-rest : goal.invariant-merge_row-loop-rest
invariant-merge_row-loop-rest g l =
    let f = g.F.Folder in
    MergeOn (inherited_view l.from) (kids_view l.kids) (kids_view l.left) (state f.files f.draft f.numbers f.faults l.fn.folder l.fn.cursor l.fn.writer) (state f.files f.draft f.numbers f.faults l.folder l.cursor l.writer)

abbrev pub decreases-merge_row-loop-rest : goal.decreases-merge_row-loop-rest
decreases-merge_row-loop-rest g l = l.cursor.length - l.cursor.at
