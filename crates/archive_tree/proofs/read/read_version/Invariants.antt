use Rattle.std.proofs.Common.{◌≡◌, drop}
use Rattle.version_set.specs.Members.{members}
use Rattle.version_set.specs.View.{pairs_of}
use Rattle.archive_tree.specs.Read.{read_root}
use Rattle.archive_tree.specs.View.{nodes_view}
use Rattle.archive_tree.proofs.read.read_version.Given as goal

-- what is left decides
abbrev pub invariant-loop-node : goal.invariant-loop-node
invariant-loop-node l =
    read_root l.i (members (pairs_of l.all)) (nodes_view l.nodes) ≡ read_root l.i (members (pairs_of l.all)) (nodes_view (drop l.node-index l.nodes))
