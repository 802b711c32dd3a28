-- Which nodes go into the fields of a file, as tests.
use Rattle.std.specs.Prelude.{ℕ, ◌^◌, Bool, true, ◌&&◌, nat_lt, List, [], ◌∷◌, length, ⊤, ◌<◌}
use Rattle.std.specs.List.{AllByRecursion}
use Rattle.archive_tree.specs.Data.{PlainAlt, PlainNode, inner_node, leaf_node, PlainNodes, no_nodes, node, nodes_list}
use Rattle.record_parts.specs.Bounds.{IsValue, IsLabel}
use Rattle.record_parts.specs.Checks.{value_fits, label_fits, stamp_fits}

-- the number fits four bytes
abbrev pub fits_four : ℕ → Bool
fits_four n = nat_lt n (2 ^ 32)

abbrev pub alts_go : List PlainAlt → Bool
alts_go [] = true
alts_go (x ∷ xs) = stamp_fits x.stamp && (value_fits x.body && alts_go xs)

abbrev mutual
  pub node_goes : PlainNode → Bool
  node_goes (inner_node l s ks) = label_fits l && (stamp_fits s && (fits_four (length (nodes_list ks)) && nodes_go ks))
  node_goes (leaf_node l s xs) = label_fits l && (stamp_fits s && alts_go xs)

  pub nodes_go : PlainNodes → Bool
  nodes_go no_nodes = true
  nodes_go (node k ks) = node_goes k && nodes_go ks

-- the kids of a node
abbrev pub row_goes : PlainNodes → Bool
row_goes ks = fits_four (length (nodes_list ks)) && nodes_go ks

-- ---- what is needed to write the nodes

abbrev pub HasBody : PlainAlt → Type 0
HasBody x = IsValue x.body

-- each label and each body has an encoding, and no node has too many kids
abbrev mutual
  pub HasParts : PlainNode → Type 0
  HasParts (inner_node l s ks) = IsLabel l × (length (nodes_list ks) < 2 ^ 32) × HaveParts ks
  HasParts (leaf_node l s xs) = IsLabel l × AllByRecursion HasBody xs

  pub HaveParts : PlainNodes → Type 0
  HaveParts no_nodes = ⊤
  HaveParts (node k ks) = HasParts k × HaveParts ks
