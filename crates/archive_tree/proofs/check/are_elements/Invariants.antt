use Rattle.std.proofs.Common.{◌≡◌, drop}
use Rattle.archive_tree.specs.PartsTest.{are_elements}
use Rattle.archive_tree.specs.View.{nodes_view}
use Rattle.archive_tree.proofs.check.are_elements.Given as goal

-- what is left decides
abbrev pub invariant-loop-node : goal.invariant-loop-node
invariant-loop-node l = are_elements (nodes_view l.nodes) ≡ are_elements (nodes_view (drop l.node-index l.nodes))
