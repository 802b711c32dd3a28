use Rattle.std.proofs.Common.{◌-◌, ◌*◌, ◌+◌}
use Rattle.version_set.specs.View.{pairs_of}
use Rattle.archive_join.specs.Heads.{one_of, two_of}
use Rattle.archive_join.specs.State.{state}
use Rattle.archive_join.proofs.JoinWalking.{RowsOn}
use Rattle.archive_join.proofs.walk.+walk.Given as goal

abbrev pub decreases-join_row : goal.decreases-join_row
decreases-join_row g l = 5 * ((l.left.now.length - l.left.now.at) + (l.right.now.length - l.right.now.at))

abbrev pub decreases-join_begun : goal.decreases-join_begun
decreases-join_begun g l = 5 * ((l.left.now.length - l.left.now.at) + (l.right.now.length - l.right.now.at)) + 1

abbrev pub decreases-join_node : goal.decreases-join_node
decreases-join_node g l = 5 * ((l.left.now.length - l.left.now.at) + (l.right.now.length - l.right.now.at)) + 2

abbrev pub decreases-join_pair : goal.decreases-join_pair
decreases-join_pair g l = 5 * ((l.left.now.length - l.left.now.at) + (l.right.now.length - l.right.now.at)) + 3

abbrev pub decreases-join_turn : goal.decreases-join_turn
decreases-join_turn g l = 5 * ((l.left.now.length - l.left.now.at) + (l.right.now.length - l.right.now.at)) + 4

-- so many nodes were joined
abbrev pub invariant-join_row-loop-heads : goal.invariant-join_row-loop-heads
invariant-join_row-loop-heads g l =
    let f = g.F.Folder in
    RowsOn l.fn.sides.two.by (pairs_of l.fn.sets.one) (pairs_of l.fn.sets.two) (pairs_of l.fn.sets.both) (state f.files f.draft f.numbers f.faults l.fn.folder l.fn.left l.fn.right l.fn.writer)
    (state f.files f.draft f.numbers f.faults l.folder l.left l.right l.writer) (one_of l.heads) (two_of l.heads)

abbrev pub decreases-join_row-loop-heads : goal.decreases-join_row-loop-heads
decreases-join_row-loop-heads g l = (l.left.length - l.left.at) + (l.right.length - l.right.at)
