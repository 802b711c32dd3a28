-- What finds the nodes and the bodies that a version has.
use Rattle.std.specs.Prelude.{◌≡◌, ◌≤◌, ◌+◌, ℕ, Bool, true, List, [], ◌∷◌, Option, IfSome, ⊤, map, slice_get, if◌then◌else◌}
use Rattle.std.specs.Option.{option_map, unwrap_or}
use Rattle.version_set.specs.Members.{has, members}
use Rattle.version_set.specs.declared.limits.TheConstants.{GREATEST_NUMBER}
use Rattle.timestamp_tree.specs.Data.{PlainTs, leaves}
use Rattle.timestamp_tree.specs.View.{ts_view}
use Rattle.jsonml_tree.specs.Data.{null}
use Rattle.keyed_tree.specs.Data.{PlainKey, scalar}
use Rattle.archive_tree.specs.Data.{eff, PlainAlt, PlainNode, inner_node, leaf_node, Stamp, node_kids, node_stamp, nodes_list}
use Rattle.archive_rekey.specs.declared.index.Index.{Index, Index-F, fold-Index}

-- ---- an index, as plain data: a tree over sets, if there is one, and what is beside the nodes of a row, with the places of these

mutual
  pub data PlainIndex : Type 0 where
    index : Option PlainTs → PlainBelow → PlainIndex

  pub data PlainBelow : Type 0 where
    none_below : PlainBelow
    at_place : ℕ → PlainIndex → PlainBelow → PlainBelow

abbrev pub below_from : List (ℕ × PlainIndex) → PlainBelow
below_from [] = none_below
below_from (x ∷ xs) = at_place x.0 x.1 (below_from xs)

abbrev pub index_step : Index-F PlainIndex → PlainIndex
index_step x = index (option_map ts_view x.sets) (below_from x.below.items)

abbrev pub index_view : Index → PlainIndex
index_view = fold-Index PlainIndex index_step

abbrev pub below_view : List (ℕ × Index) → PlainBelow
below_view xs = below_from (map (λ x. (x.0, index_view x.1)) xs)

-- ---- what it is beside

-- each number that a version may have
abbrev pub IsFull : List (ℕ × ℕ) → Type 0
IsFull ps = (n : ℕ) → 1 ≤ n → n ≤ GREATEST_NUMBER → has (members ps) n ≡ true

-- the leaves of the tree are the sets that are stored, and of what stores none the set of all numbers
pub record IsOver (t : PlainTs) (ss : List Stamp) : Type 0 where
  pub all : List (ℕ × ℕ)
  pub full : IsFull all
  pub is : leaves t ≡ map (λ s. unwrap_or s all) ss

-- the stamps of what is in a node: of its kids, or of its bodies
abbrev pub stamps_in : PlainNode → List Stamp
stamps_in (inner_node l s ks) = map node_stamp (nodes_list ks)
stamps_in (leaf_node l s xs) = map (λ (x : PlainAlt). x.stamp) xs

abbrev mutual
  -- a tree is over the sets of what has these stamps, and what is below is beside these nodes
  pub IsIndex : PlainIndex → List Stamp → List PlainNode → Type 0
  IsIndex (index t below) ss ks = IfSome t (λ t. IsOver t ss) × IsBelow below ks

  -- at each place stands an index of what is in the node there
  pub IsBelow : PlainBelow → List PlainNode → Type 0
  IsBelow none_below ks = ⊤
  IsBelow (at_place i x xs) ks = IfSome (slice_get ks i) (λ k. IsIndex x (stamps_in k) (nodes_list (node_kids k))) × IsBelow xs ks

-- an index of a row, if there is one
abbrev pub IsRowIndex : Option PlainIndex → List PlainNode → Type 0
IsRowIndex o ks = IfSome o (λ x. IsIndex x (map node_stamp ks) ks)

-- one of the bodies of a leaf
abbrev pub IsLeafIndex : Option PlainIndex → List PlainAlt → Type 0
IsLeafIndex o xs = IfSome o (λ x. IsIndex x (map (λ (y : PlainAlt). y.stamp) xs) [])

-- one of what is in a node
abbrev pub IsNodeIndex : Option PlainIndex → PlainNode → Type 0
IsNodeIndex o k = IfSome o (λ x. IsIndex x (stamps_in k) (nodes_list (node_kids k)))

-- ---- what a version has

-- whether what has the stamp is in version n, where its parent is
abbrev pub is_in : ℕ → Stamp → Bool
is_in n s = has (eff s (n ∷ [])) n

-- the places, counted from this one, of what is in version n
abbrev pub places_from : ℕ → ℕ → List Stamp → List ℕ
places_from n at [] = []
places_from n at (s ∷ ss) = if is_in n s then at ∷ places_from n (at + 1) ss else places_from n (at + 1) ss

-- the places of what is in version n
abbrev pub places : ℕ → List Stamp → List ℕ
places n ss = places_from n 0 ss

-- the body at the first of some places
abbrev pub body_of : List PlainAlt → List ℕ → PlainKey
body_of xs [] = scalar null
body_of xs (i ∷ is) = unwrap_or (option_map (λ (x : PlainAlt). x.body) (slice_get xs i)) (scalar null)
