use Rattle.std.proofs.Common.{◌≡◌, ◌≤◌, ◌++◌, length, map}
use Rattle.keyed_parts.specs.View.{kid_view, kids_view}
use Rattle.new_archive.specs.Added.{new_full}
use Rattle.new_archive.specs.View.{row_view}
use Rattle.new_archive.proofs.Sizes.{tree_size, list_size}
use Rattle.new_archive.proofs.fresh.+fresh.Given as goal

-- what is done, and what the kids that are left become, are the whole
abbrev pub invariant-nodes_of-loop-kid : goal.invariant-nodes_of-loop-kid
invariant-nodes_of-loop-kid l = record {
  smaller : list_size (kids_view l.left) ≤ list_size (kids_view l.fn.new);
  whole : row_view l.nodes.items ++ map (new_full l.n) (kids_view l.left) ≡ map (new_full l.n) (kids_view l.fn.new);
}

abbrev pub decreases-nodes_of-loop-kid : goal.decreases-nodes_of-loop-kid
decreases-nodes_of-loop-kid l = length (kids_view l.left)

abbrev pub decreases-nodes_of : goal.decreases-nodes_of
decreases-nodes_of l = list_size (kids_view l.new)

abbrev pub decreases-node_of : goal.decreases-node_of
decreases-node_of l = tree_size (kid_view l.new)
