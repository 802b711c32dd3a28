-- A path's way down an archive's nodes.
use Rattle.std.specs.Prelude.{ℕ, Bool, true, ◌&&◌, List, [], ◌∷◌, Option, Some, None, IsTrue}
use Rattle.std.specs.List.{find}
use Rattle.std.specs.Ordering.{is_eq, is_lt}
use Rattle.version_set.specs.Members.{members}
use Rattle.keyed_tree.specs.Data.{PlainLabel}
use Rattle.keyed_tree.specs.Order.{label_cmp}
use Rattle.archive_tree.specs.Data.{eff, PlainNode, inner_node, leaf_node, PlainNodes, no_nodes, node, node_label, node_stamp, node_kids, nodes_list}
use Rattle.archive_tree.specs.Stands.{labels}

-- the node with the label
abbrev pub node_with : PlainLabel → List PlainNode → Option PlainNode
node_with l ks = find (λ k. is_eq (label_cmp (node_label k) l)) ks

-- what f gives of a node's numbers and its kids
abbrev pub enter : (List ℕ → PlainNodes → List ℕ) → List ℕ → Option PlainNode → List ℕ
enter f ps None = []
enter f ps (Some k) = f (eff (node_stamp k) ps) (node_kids k)

-- the numbers of the node that the path leads to, below nodes whose parent has ps
abbrev pub seek : List PlainLabel → List ℕ → PlainNodes → List ℕ
seek [] ps ks = ps
seek (l ∷ ls) ps ks = enter (seek ls) ps (node_with l (nodes_list ks))

-- the numbers of the set that was found, and none where there is none
abbrev pub members_in : Option (List (ℕ × ℕ)) → List ℕ
members_in None = []
members_in (Some s) = members s

-- each label is above the one before it, the first above this one
abbrev pub rise_from : PlainLabel → List PlainLabel → Bool
rise_from l [] = true
rise_from l (m ∷ ms) = is_lt (label_cmp l m) && rise_from m ms

abbrev pub rise : List PlainLabel → Bool
rise [] = true
rise (l ∷ ls) = rise_from l ls

-- the labels of each row ascend
abbrev mutual
  pub is_sorted : PlainNode → Bool
  is_sorted (inner_node l s ks) = rise (labels ks) && are_sorted ks
  is_sorted (leaf_node l s xs) = true

  pub are_sorted : PlainNodes → Bool
  are_sorted no_nodes = true
  are_sorted (node k ks) = is_sorted k && are_sorted ks

-- the labels of this row and of each one below it ascend
abbrev pub AreRowsSorted : PlainNodes → Type 0
AreRowsSorted ks = IsTrue (rise (labels ks) && are_sorted ks)
