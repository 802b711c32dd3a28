use Rattle.std.proofs.Common.{◌≡◌, map, drop}
use Rattle.version_set.specs.Members.{members}
use Rattle.version_set.specs.View.{pairs_of}
use Rattle.keyed_tree.specs.View.{label_view}
use Rattle.archive_tree.specs.Seek.{seek, AreRowsSorted}
use Rattle.archive_tree.specs.View.{nodes_view}
use Rattle.archive_tree.proofs.read.follow.Given as goal

-- the rest of the path leads on from these nodes
abbrev pub invariant-loop-label : goal.invariant-loop-label
invariant-loop-label l = record {
  sorted : AreRowsSorted (nodes_view l.nodes);
  left : seek (map label_view l.path) (members (pairs_of l.all)) (nodes_view l.fn.nodes) ≡ seek (map label_view (drop l.label-index l.path)) (members (pairs_of l.set)) (nodes_view l.nodes);
}
