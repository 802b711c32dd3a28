-- Whether every stored number is below some n.
use Rattle.std.specs.Prelude.{ℕ, Bool, true, ◌&&◌, List, [], ◌∷◌, Some, None, nat_lt}
use Rattle.version_set.specs.Pairs.{last_of}
use Rattle.archive_tree.specs.Data.{Stamp, PlainAlt, PlainNode, inner_node, leaf_node, PlainNodes, no_nodes, node}

abbrev pub is_stamp_below : ℕ → Stamp → Bool
is_stamp_below n None = true
is_stamp_below n (Some s) = nat_lt (last_of s) n

abbrev pub are_alts_below : ℕ → List PlainAlt → Bool
are_alts_below n [] = true
are_alts_below n (x ∷ xs) = is_stamp_below n x.stamp && are_alts_below n xs

abbrev mutual
  pub is_node_below : ℕ → PlainNode → Bool
  is_node_below n (inner_node l s ks) = is_stamp_below n s && are_nodes_below n ks
  is_node_below n (leaf_node l s xs) = is_stamp_below n s && are_alts_below n xs

  pub are_nodes_below : ℕ → PlainNodes → Bool
  are_nodes_below n no_nodes = true
  are_nodes_below n (node k ks) = is_node_below n k && are_nodes_below n ks
