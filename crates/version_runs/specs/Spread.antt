-- What has one version of each run, spread to all numbers of the runs.
use Rattle.std.specs.Prelude.{ℕ, ◌+◌, ◌-◌, ◌≤◌, List, [], ◌∷◌, ◌++◌, Some, None, map, replicate, ⊤}
use Rattle.std.specs.List.{AllByRecursion}
use Rattle.std.specs.Option.{option_map}
use Rattle.version_set.specs.Pairs.{IsCanonical, last_of}
use Rattle.keyed_tree.specs.Data.{PlainKeyed}
use Rattle.archive_tree.specs.Data.{Stamp, PlainAlt, PlainNode, inner_node, leaf_node, PlainNodes, no_nodes, node, PlainArchive}
use Rattle.archive_tree.specs.Stands.{head_or}
use Rattle.version_runs.specs.Runs.{start_of, end_of}

-- an interval of runs, as one of numbers
abbrev pub spread_pair : List ℕ → ℕ → ℕ × ℕ → ℕ × ℕ
spread_pair ps n p = (start_of ps n p.0, end_of ps n p.1)

abbrev pub spread_pairs : List ℕ → ℕ → List (ℕ × ℕ) → List (ℕ × ℕ)
spread_pairs ps n s = map (spread_pair ps n) s

abbrev pub spread_stamp : List ℕ → ℕ → Stamp → Stamp
spread_stamp ps n s = option_map (spread_pairs ps n) s

abbrev pub spread_alt : List ℕ → ℕ → PlainAlt → PlainAlt
spread_alt ps n x = record { stamp = spread_stamp ps n x.stamp; body = x.body }

abbrev mutual
  -- each stored set is spread, and nothing else changes
  pub spread_node : List ℕ → ℕ → PlainNode → PlainNode
  spread_node ps n (inner_node l s ks) = inner_node l (spread_stamp ps n s) (spread_nodes ps n ks)
  spread_node ps n (leaf_node l s xs) = leaf_node l (spread_stamp ps n s) (map (spread_alt ps n) xs)

  pub spread_nodes : List ℕ → ℕ → PlainNodes → PlainNodes
  spread_nodes ps n no_nodes = no_nodes
  spread_nodes ps n (node k ks) = node (spread_node ps n k) (spread_nodes ps n ks)

abbrev pub spread : List ℕ → ℕ → PlainArchive → PlainArchive
spread ps n a = record { n = n; kids = spread_nodes ps n a.kids }

-- each version as often as its run has numbers
abbrev pub spread_list : List ℕ → ℕ → List PlainKeyed → List PlainKeyed
spread_list [] n us = []
spread_list (p ∷ ps) n [] = []
spread_list (p ∷ ps) n (u ∷ us) = replicate (head_or (n + 1) ps - p) u ++ spread_list ps n us

-- ---- sets of runs, up to a last one

abbrev pub IsStampWithin : ℕ → Stamp → Type 0
IsStampWithin c None = ⊤
IsStampWithin c (Some s) = IsCanonical s × (last_of s ≤ c)

abbrev mutual
  -- each stored set in the node is one
  pub IsNodeWithin : ℕ → PlainNode → Type 0
  IsNodeWithin c (inner_node l s ks) = IsStampWithin c s × AreNodesWithin c ks
  IsNodeWithin c (leaf_node l s xs) = IsStampWithin c s × AllByRecursion (λ x. IsStampWithin c x.stamp) xs

  pub AreNodesWithin : ℕ → PlainNodes → Type 0
  AreNodesWithin c no_nodes = ⊤
  AreNodesWithin c (node k ks) = IsNodeWithin c k × AreNodesWithin c ks
