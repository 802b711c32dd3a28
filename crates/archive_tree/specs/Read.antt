-- The version that an archive's nodes have at a number.
use Rattle.std.specs.Prelude.{ℕ, List, [], ◌∷◌, Option, Some, None, if◌then◌else◌}
use Rattle.std.specs.List.{range_with_len}
use Rattle.version_set.specs.Members.{has}
use Rattle.jsonml_tree.specs.Data.{null}
use Rattle.keyed_tree.specs.Data.{PlainKey, scalar, PlainKeyed, inner, leaf, PlainKids, no_kids, kid}
use Rattle.archive_tree.specs.Data.{eff, PlainAlt, PlainNode, inner_node, leaf_node, PlainNodes, no_nodes, node, node_stamp, PlainArchive}

-- the body of the alternative that has the number, in a leaf that has ns
abbrev pub body_at : ℕ → List ℕ → List PlainAlt → PlainKey
body_at n ns [] = scalar null
body_at n ns (x ∷ xs) = if has (eff x.stamp ns) n then x.body else body_at n ns xs

abbrev mutual
  -- the tree of a node at a number that it has, under a parent that has ps
  pub read : ℕ → List ℕ → PlainNode → PlainKeyed
  read n ps (inner_node l s ks) = inner l (read_row n (eff s ps) ks)
  read n ps (leaf_node l s xs) = leaf l (body_at n (eff s ps) xs)

  -- the trees of those nodes that have the number
  pub read_row : ℕ → List ℕ → PlainNodes → PlainKids
  read_row n ns no_nodes = no_kids
  read_row n ns (node k ks) = if has (eff (node_stamp k) ns) n then kid (read n ns k) (read_row n ns ks) else read_row n ns ks

-- the tree of the kid of the virtual root that has the number
abbrev pub read_root : ℕ → List ℕ → PlainNodes → Option PlainKeyed
read_root n ns no_nodes = None
read_root n ns (node k ks) = if has (eff (node_stamp k) ns) n then Some (read n ns k) else read_root n ns ks

-- the version of that number, as it is read from the nodes
abbrev pub version_at : ℕ → PlainArchive → Option PlainKeyed
version_at i a = read_root i (range_with_len 1 a.n) a.kids
