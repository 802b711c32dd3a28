use Rattle.std.proofs.Common.{◌≡◌, drop}
use Rattle.archive_tree.specs.View.{nodes_view}
use Rattle.archive_file.specs.NodeFits.{are_shallow}
use Rattle.archive_file.proofs.level.+level.Given as goal

-- what is left decides
abbrev pub invariant-are_shallow-loop-node : goal.invariant-are_shallow-loop-node
invariant-are_shallow-loop-node l = are_shallow l.left (nodes_view l.nodes) ≡ are_shallow l.left (nodes_view (drop l.node-index l.nodes))
