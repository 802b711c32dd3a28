-- Whether a tree has a leaf where a node of an archive has one, and an inner node where it has one.
use Rattle.std.specs.Prelude.{Bool, true, false, ◌&&◌, List, Option, Some, None}
use Rattle.keyed_tree.specs.Data.{PlainKeyed, inner, leaf, kids_list}
use Rattle.keyed_tree.specs.Kids.{kid_at}
use Rattle.archive_tree.specs.Data.{PlainNode, inner_node, leaf_node, PlainNodes, no_nodes, node, node_label}

-- the test passes, where there is a tree
abbrev pub if_there : Option PlainKeyed → (PlainKeyed → Bool) → Bool
if_there None f = true
if_there (Some c) f = f c

abbrev mutual
  pub fits : PlainNode → PlainKeyed → Bool
  fits (inner_node l s ks) (inner m cs) = all_fit ks (kids_list cs)
  fits (inner_node l s ks) (leaf m b) = false
  fits (leaf_node l s xs) (inner m cs) = false
  fits (leaf_node l s xs) (leaf m b) = true

  pub all_fit : PlainNodes → List PlainKeyed → Bool
  all_fit no_nodes cs = true
  all_fit (node k ks) cs = if_there (kid_at (node_label k) cs) (λ c. fits k c) && all_fit ks cs
