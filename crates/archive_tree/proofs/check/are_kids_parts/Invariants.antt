use Rattle.std.proofs.Common.{◌≡◌, ◌++◌, map, drop}
use Rattle.version_set.specs.Members.{members}
use Rattle.version_set.specs.View.{pairs_of}
use Rattle.archive_tree.specs.Parts.{node_sets}
use Rattle.archive_tree.specs.View.{nodes_view}
use Rattle.archive_tree.proofs.check.are_kids_parts.Given as goal

-- what is done and what is left are all
abbrev pub invariant-loop-node : goal.invariant-loop-node
invariant-loop-node l =
    map (λ s. members (pairs_of s.now)) l.parts.items ++ node_sets (members (pairs_of l.set)) (nodes_view (drop l.node-index l.nodes))
    ≡ node_sets (members (pairs_of l.set)) (nodes_view l.nodes)
