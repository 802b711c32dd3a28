-- The calls that walk an archive.
use Rattle.std.specs.Prelude.{ℕ, List, [], ◌∷◌, ◌++◌, map}
use Rattle.version_set.specs.Members.{upto_pairs}
use Rattle.archive_tree.specs.Data.{PlainAlt, PlainNode, inner_node, leaf_node, PlainNodes, no_nodes, node, PlainArchive}
use Rattle.record_format.specs.Nodes.{set_in}
use Rattle.record_writer.specs.Data.{WriterCall, call_inner, call_leaf, call_alt, call_end_leaf, call_end_inner, call_finish}

abbrev pub alt_calls : List PlainAlt → List WriterCall
alt_calls xs = map (λ (x : PlainAlt). call_alt x.stamp x.body) xs

-- a node under a parent that has this set is begun, then come its alternatives or its children, and it is closed
abbrev mutual
  pub node_calls : List (ℕ × ℕ) → PlainNode → List WriterCall
  node_calls parent (inner_node l s ks) = call_inner l s (set_in s parent) ∷ (row_calls (set_in s parent) ks ++ call_end_inner ∷ [])
  node_calls parent (leaf_node l s xs) = call_leaf l s (set_in s parent) ∷ (alt_calls xs ++ call_end_leaf ∷ [])

  pub row_calls : List (ℕ × ℕ) → PlainNodes → List WriterCall
  row_calls parent no_nodes = []
  row_calls parent (node k ks) = node_calls parent k ++ row_calls parent ks

-- the children of the virtual root, which has all versions, and the end
abbrev pub walk_of : PlainArchive → List WriterCall
walk_of a = row_calls (upto_pairs a.n) a.kids ++ call_finish ∷ []
