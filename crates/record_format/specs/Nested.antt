-- How deep inner nodes nest.
use Rattle.std.specs.Prelude.{ℕ, ◌-◌, Bool, true, ◌&&◌, nat_lt}
use Rattle.archive_tree.specs.Data.{PlainNode, inner_node, leaf_node, PlainNodes, no_nodes, node}

-- inner nodes nest at most so deep
abbrev mutual
  pub is_nested : ℕ → PlainNode → Bool
  is_nested d (inner_node l s ks) = nat_lt 0 d && are_nested (d - 1) ks
  is_nested d (leaf_node l s xs) = true

  pub are_nested : ℕ → PlainNodes → Bool
  are_nested d no_nodes = true
  are_nested d (node k ks) = is_nested d k && are_nested d ks
