-- Which nodes are well formed: each scalar and content in them is.
use Rattle.std.specs.Prelude.{Bool, true, ◌&&◌, List, [], ◌∷◌, IsTrue}
use Rattle.keyed_tree.specs.WellFormed.{is_key_well_formed, is_label_well_formed}
use Rattle.archive_tree.specs.Data.{PlainAlt, PlainNode, inner_node, leaf_node, PlainNodes, no_nodes, node}

abbrev pub are_alts_well_formed : List PlainAlt → Bool
are_alts_well_formed [] = true
are_alts_well_formed (x ∷ xs) = is_key_well_formed x.body && are_alts_well_formed xs

abbrev mutual
  pub is_node_well_formed : PlainNode → Bool
  is_node_well_formed (inner_node l s ks) = is_label_well_formed l && are_nodes_well_formed ks
  is_node_well_formed (leaf_node l s xs) = is_label_well_formed l && are_alts_well_formed xs

  pub are_nodes_well_formed : PlainNodes → Bool
  are_nodes_well_formed no_nodes = true
  are_nodes_well_formed (node k ks) = is_node_well_formed k && are_nodes_well_formed ks

abbrev pub IsNodeWellFormed : PlainNode → Type 0
IsNodeWellFormed k = IsTrue (is_node_well_formed k)

abbrev pub AreNodesWellFormed : PlainNodes → Type 0
AreNodesWellFormed ks = IsTrue (are_nodes_well_formed ks)
