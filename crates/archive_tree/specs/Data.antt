-- What an archive is: plain data, with the list of its intervals for each set of numbers.
use Rattle.std.specs.Prelude.{ℕ, List, [], ◌∷◌, Option, Some, None}
use Rattle.version_set.specs.Members.{members}
use Rattle.keyed_tree.specs.Data.{PlainKey, PlainLabel}

-- the set that is stored, if one is
abbrev pub Stamp : Type 0
Stamp = Option (List (ℕ × ℕ))

-- the numbers of the stored set, else those of the parent
abbrev pub eff : Stamp → List ℕ → List ℕ
eff None ns = ns
eff (Some s) ns = members s

-- one of the bodies that a leaf has had
pub record PlainAlt : Type 0 where
  pub stamp : Stamp
  pub body : PlainKey

mutual
  pub data PlainNode : Type 0 where
    inner_node : PlainLabel → Stamp → PlainNodes → PlainNode
    leaf_node : PlainLabel → Stamp → List PlainAlt → PlainNode

  pub data PlainNodes : Type 0 where
    no_nodes : PlainNodes
    node : PlainNode → PlainNodes → PlainNodes

-- the nodes of a list, one after another
abbrev pub nodes_from : List PlainNode → PlainNodes
nodes_from [] = no_nodes
nodes_from (k ∷ ks) = node k (nodes_from ks)

-- the nodes of a row, as a list
abbrev pub nodes_list : PlainNodes → List PlainNode
nodes_list no_nodes = []
nodes_list (node k ks) = k ∷ nodes_list ks

abbrev pub node_label : PlainNode → PlainLabel
node_label (inner_node l s ks) = l
node_label (leaf_node l s xs) = l

abbrev pub node_stamp : PlainNode → Stamp
node_stamp (inner_node l s ks) = s
node_stamp (leaf_node l s xs) = s

-- the kids of an inner node, and none of a leaf
abbrev pub node_kids : PlainNode → PlainNodes
node_kids (inner_node l s ks) = ks
node_kids (leaf_node l s xs) = no_nodes

-- the number of versions, and the kids of the virtual root
pub record PlainArchive : Type 0 where
  pub n : ℕ
  pub kids : PlainNodes
