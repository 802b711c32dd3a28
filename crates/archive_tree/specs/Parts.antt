-- Which parts are those of an archive, whatever its versions.
use Rattle.std.specs.Prelude.{◌≡◌, ◌≢◌, ℕ, List, [], ◌∷◌, map, Some, IsSome, ⊤, IsTrue}
use Rattle.std.specs.List.{AllByRecursion, range_with_len}
use Rattle.std.specs.Ordering.{nat_cmp}
use Rattle.version_set.specs.Pairs.{IsCanonical}
use Rattle.keyed_tree.specs.Lists.{Ascends, Has}
use Rattle.keyed_tree.specs.Order.{label_cmp}
use Rattle.keyed_tree.specs.Proper.{is_tag}
use Rattle.archive_tree.specs.Data.{Stamp, eff, PlainAlt, PlainNode, inner_node, leaf_node, PlainNodes, no_nodes, node, node_label, node_stamp, nodes_list, PlainArchive}
use Rattle.archive_tree.specs.Stands.{AllDiffer, first_num, bodies, labels}

-- the effective set is not empty and lies in the parent's, and a stored set differs from the parent's
pub record IsStampWell (s : Stamp) (ps : List ℕ) : Type 0 where
  pub some : eff s ps ≢ []
  pub within : (n : ℕ) → Has n (eff s ps) → Has n ps
  pub differs : IsSome s → eff s ps ≢ ps
  pub canonical : (t : List (ℕ × ℕ)) → s ≡ Some t → IsCanonical t

-- no number is in both
abbrev pub Apart : List ℕ → List ℕ → Type 0
Apart ns ms = (n : ℕ) → Has n ns → ¬ (Has n ms)

abbrev pub AllApart : List (List ℕ) → Type 0
AllApart [] = ⊤
AllApart (s ∷ ss) = AllByRecursion (Apart s) ss × AllApart ss

-- the sets are pairwise disjoint and together are the numbers
pub record AreParts (sets : List (List ℕ)) (ns : List ℕ) : Type 0 where
  pub apart : AllApart sets
  pub inside : (s : List ℕ) → Has s sets → (n : ℕ) → Has n s → Has n ns
  pub whole : (n : ℕ) → Has n ns → (s : List ℕ) × (Has s sets × Has n s)

abbrev pub alt_sets : List ℕ → List PlainAlt → List (List ℕ)
alt_sets ns xs = map (λ a. eff a.stamp ns) xs

abbrev pub node_sets : List ℕ → PlainNodes → List (List ℕ)
node_sets ns ks = map (λ k. eff (node_stamp k) ns) (nodes_list ks)

-- the alternatives of a leaf that has ns
pub record AreAltsWell (xs : List PlainAlt) (ns : List ℕ) : Type 0 where
  pub stamps : AllByRecursion (λ a. IsStampWell a.stamp ns) xs
  pub parts : AreParts (alt_sets ns xs) ns
  pub different : AllDiffer (bodies xs)
  pub in_order : Ascends nat_cmp (map (first_num ns) xs)

pub record IsInnerWell (s : Stamp) (ks : PlainNodes) (ps : List ℕ) (each : Type 0) : Type 0 where
  pub stamp : IsStampWell s ps
  pub ascending : Ascends label_cmp (labels ks)
  pub kids : each

pub record IsLeafWell (s : Stamp) (xs : List PlainAlt) (ps : List ℕ) : Type 0 where
  pub stamp : IsStampWell s ps
  pub alts : AreAltsWell xs (eff s ps)

abbrev mutual
  -- the node, under a parent that has ps, with all below it
  pub IsNodeWell : PlainNode → List ℕ → Type 0
  IsNodeWell (inner_node l s ks) ps = IsInnerWell s ks ps (AreNodesWell ks (eff s ps))
  IsNodeWell (leaf_node l s xs) ps = IsLeafWell s xs ps

  pub AreNodesWell : PlainNodes → List ℕ → Type 0
  AreNodesWell no_nodes ns = ⊤
  AreNodesWell (node k ks) ns = IsNodeWell k ns × AreNodesWell ks ns

-- these are the parts of an archive
pub record IsArchive (a : PlainArchive) : Type 0 where
  pub ascending : Ascends label_cmp (labels a.kids)
  pub elements : AllByRecursion (λ k. IsTrue (is_tag (node_label k).name)) (nodes_list a.kids)
  pub kids : AreNodesWell a.kids (range_with_len 1 a.n)
  pub parts : AreParts (node_sets (range_with_len 1 a.n) a.kids) (range_with_len 1 a.n)
