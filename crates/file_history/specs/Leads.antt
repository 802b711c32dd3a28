-- The node that a path leads to, and where it stands if it is a leaf.
use Rattle.std.specs.Prelude.{◌≡◌, ℕ, List, [], ◌∷◌, Option, Some, None, IsSomeAnd}
use Rattle.std.specs.List.{AllByRecursion}
use Rattle.version_set.specs.Members.{members, upto_pairs}
use Rattle.version_set.specs.View.{pairs_of}
use Rattle.version_set.specs.declared.set.VersionSet.{VersionSet}
use Rattle.keyed_tree.specs.Data.{PlainLabel}
use Rattle.archive_tree.specs.Data.{PlainNode, inner_node, leaf_node, PlainNodes, node_stamp, node_kids, nodes_list, PlainArchive}
use Rattle.archive_tree.specs.Seek.{node_with, seek}
use Rattle.record_format.specs.Bounds.{IsRec}
use Rattle.record_format.specs.Nodes.{set_in, node_piece}
use Rattle.file_rows.specs.StandsAt.{ChildLaid}
use Rattle.file_rows.specs.View.{PlainChild, child_view}
use Rattle.file_rows.specs.declared.places.Child.{Child}
use Rattle.file_history.specs.declared.follow.Spot.{Spot}
use Rattle.file_history.specs.declared.leaf.LeafAt.{LeafAt}

-- a node, and the set of its parent
pub record PlainSpot : Type 0 where
  pub parent : List (ℕ × ℕ)
  pub node : PlainNode

-- what f gives of a node below nodes whose parent has this set, of its own set and of its kids
abbrev pub onto_node : (Option PlainSpot → List (ℕ × ℕ) → PlainNodes → Option PlainSpot) → List (ℕ × ℕ) → Option PlainNode → Option PlainSpot
onto_node f set None = None
onto_node f set (Some k) = f (Some (record { parent = set; node = k })) (set_in (node_stamp k) set) (node_kids k)

-- The node that the path leads to, below nodes whose parent has this set; behind its last label the node that was found last.
abbrev pub lead : List PlainLabel → Option PlainSpot → List (ℕ × ℕ) → PlainNodes → Option PlainSpot
lead [] last set ks = last
lead (l ∷ ls) last set ks = onto_node (lead ls) set (node_with l (nodes_list ks))

-- the node that the path leads to from the virtual root, which is no node
abbrev pub node_along : PlainArchive → List PlainLabel → Option PlainSpot
node_along a path = lead path None (upto_pairs a.n) a.kids

-- A leaf under a parent that has a set stands there, each record of it has an encoding, and it has this set itself.
pub record LeafLaid (bytes : List ℕ) (child : PlainChild) (set parent : List (ℕ × ℕ)) (k : PlainNode) : Type 0 where
  pub stands : ChildLaid bytes child (node_piece parent k)
  pub records : AllByRecursion IsRec (node_piece parent k).records
  pub has : set ≡ set_in (node_stamp k) parent

-- where the node stands, if it is a leaf
abbrev pub StandsThere : List ℕ → Option Child → List (ℕ × ℕ) → List (ℕ × ℕ) → PlainNode → Type 0
StandsThere bytes leaf set parent (inner_node l s ks) = leaf ≡ None
StandsThere bytes leaf set parent (leaf_node l s xs) = IsSomeAnd leaf (λ c. LeafLaid bytes (child_view c) set parent (leaf_node l s xs))

-- where the last node stands, if there is one and it is a leaf
abbrev pub LastStands : List ℕ → Option Child → List (ℕ × ℕ) → Option PlainSpot → Type 0
LastStands bytes leaf set None = leaf ≡ None
LastStands bytes leaf set (Some s) = StandsThere bytes leaf set s.parent s.node

-- what following a path from a row of nodes, whose parent has this set, comes to
abbrev pub IsFollowed : List ℕ → List PlainLabel → List (ℕ × ℕ) → PlainNodes → Option Spot → Type 0
IsFollowed bytes path first from None = ([] ≡ seek path (members first) from) × (lead path None first from ≡ None)
IsFollowed bytes path first from (Some s) = (members (pairs_of s.set) ≡ seek path (members first) from) × LastStands bytes s.leaf (pairs_of s.set) (lead path None first from)

-- the leaf that a path leads to
abbrev pub IsLeafThere : List ℕ → List (ℕ × ℕ) → PlainNode → Option LeafAt → Type 0
IsLeafThere bytes parent (inner_node l s ks) r = r ≡ None
IsLeafThere bytes parent (leaf_node l s xs) r = IsSomeAnd r (λ x. LeafLaid bytes (child_view x.child) (pairs_of x.set) parent (leaf_node l s xs))

-- where a path led that was followed: to a leaf that stands there, or not
abbrev pub leaf_with : VersionSet → Option Child → Option LeafAt
leaf_with set None = None
leaf_with set (Some c) = Some (record { child = c; set = set })

abbrev pub leaf_of : Option Spot → Option LeafAt
leaf_of None = None
leaf_of (Some s) = leaf_with s.set s.leaf

-- the leaf that is the node, if there is one and it is a leaf
abbrev pub IsLeafOf : List ℕ → Option PlainSpot → Option LeafAt → Type 0
IsLeafOf bytes None r = r ≡ None
IsLeafOf bytes (Some s) r = IsLeafThere bytes s.parent s.node r
