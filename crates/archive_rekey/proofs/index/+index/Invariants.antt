use Rattle.std.proofs.Common.{◌≡◌, map}
use Rattle.archive_tree.specs.View.{node_view}
use Rattle.archive_rekey.specs.Index.{IsBelow, below_view}
use Rattle.archive_rekey.proofs.index.+index.Given as goal

-- what was made is beside kids
abbrev pub invariant-index_kids-loop-node : goal.invariant-index_kids-loop-node
invariant-index_kids-loop-node l = record {
  at : l.place ≡ l.node-index;
  below : IsBelow (below_view l.below.items) (map node_view l.nodes);
}
