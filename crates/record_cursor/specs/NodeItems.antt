-- What a cursor gives of the nodes of an archive.
use Rattle.std.specs.Prelude.{ℕ, List, [], ◌∷◌, ◌++◌, length, map}
use Rattle.version_set.specs.Members.{upto_pairs}
use Rattle.archive_tree.specs.Data.{PlainAlt, PlainNode, inner_node, leaf_node, PlainNodes, no_nodes, node, PlainArchive}
use Rattle.record_format.specs.Spelling.{dir_bytes}
use Rattle.record_format.specs.Nodes.{dir_of, set_in, node_pieces}
use Rattle.record_cursor.specs.Items.{PlainItem, inner_item, leaf_item, alt_item, leaf_end_item, end_item}

-- the END of a node with these kids that has the set
abbrev pub end_of : List (ℕ × ℕ) → PlainNodes → PlainItem
end_of set ks = end_item (length (dir_bytes (dir_of (node_pieces set ks))))

abbrev pub alt_items : List PlainAlt → List PlainItem
alt_items xs = map (λ (x : PlainAlt). alt_item x.stamp x.body) xs

-- a node under a parent that has this set opens, then come its alternatives or its kids, and it closes
abbrev mutual
  pub node_items : List (ℕ × ℕ) → PlainNode → List PlainItem
  node_items parent (inner_node l s ks) = inner_item l s ∷ (row_items (set_in s parent) ks ++ end_of (set_in s parent) ks ∷ [])
  node_items parent (leaf_node l s xs) = leaf_item l s ∷ (alt_items xs ++ leaf_end_item ∷ [])

  pub row_items : List (ℕ × ℕ) → PlainNodes → List PlainItem
  row_items parent no_nodes = []
  row_items parent (node k ks) = node_items parent k ++ row_items parent ks

-- the nodes of an archive, and the END behind them
abbrev pub archive_items : PlainArchive → List PlainItem
archive_items a = row_items (upto_pairs a.n) a.kids ++ end_of (upto_pairs a.n) a.kids ∷ []
