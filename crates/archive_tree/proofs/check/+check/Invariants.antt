use Rattle.std.proofs.Common.{◌≡◌, drop}
use Rattle.version_set.specs.Members.{members}
use Rattle.version_set.specs.View.{pairs_of}
use Rattle.archive_tree.specs.PartsTest.{are_nodes_well}
use Rattle.archive_tree.specs.View.{nodes_view}
use Rattle.archive_tree.proofs.check.+check.Given as goal

-- what is left decides
abbrev pub invariant-are_nodes_well-loop-node : goal.invariant-are_nodes_well-loop-node
invariant-are_nodes_well-loop-node l =
    are_nodes_well (nodes_view l.nodes) (members (pairs_of l.set)) ≡ are_nodes_well (nodes_view (drop l.node-index l.nodes)) (members (pairs_of l.set))
