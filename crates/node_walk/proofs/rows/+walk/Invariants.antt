use Rattle.std.proofs.Common.{◌-◌, ◌*◌, ◌+◌}
use Rattle.node_judge.specs.FrameView.{frame_view}
use Rattle.row_ends.specs.KidsView.{kids_view}
use Rattle.node_walk.specs.Seen.{seen}
use Rattle.node_walk.proofs.RowLaws.{RowOn}
use Rattle.node_walk.proofs.rows.+walk.Given as goal

abbrev pub decreases-judge_in_row : goal.decreases-judge_in_row
decreases-judge_in_row g l = 3 * (l.cursor.now.length - l.cursor.now.at)

abbrev pub decreases-judge_row : goal.decreases-judge_row
decreases-judge_row g l = 3 * (l.cursor.now.length - l.cursor.now.at) + 1

abbrev pub decreases-judge_inner : goal.decreases-judge_inner
decreases-judge_inner g l = 3 * (l.cursor.now.length - l.cursor.now.at) + 2

-- so many nodes were judged
abbrev pub invariant-judge_row-loop-label : goal.invariant-judge_row-loop-label
invariant-judge_row-loop-label g l =
    let f = g.F.Folder in
    RowOn (frame_view l.fn.frame) (frame_view l.frame) (seen f.files f.draft f.numbers f.faults l.fn.folder l.fn.cursor) (seen f.files f.draft f.numbers f.faults l.folder l.cursor) (kids_view l.kids)

abbrev pub decreases-judge_row-loop-label : goal.decreases-judge_row-loop-label
decreases-judge_row-loop-label g l = l.cursor.length - l.cursor.at
