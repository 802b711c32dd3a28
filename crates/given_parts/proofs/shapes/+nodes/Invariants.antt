use Rattle.archive_tree.specs.WellFormed.{AreNodesWellFormed}
use Rattle.archive_tree.specs.View.{nodes_view}
use Rattle.given_parts.proofs.shapes.+nodes.Given as goal

abbrev pub invariant-nodes-loop-shape : goal.invariant-nodes-loop-shape
invariant-nodes-loop-shape l = AreNodesWellFormed (nodes_view l.kids.items)
