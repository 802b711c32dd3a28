-- The archive for which a new archive stands: a set is left out where it is that of the parent.
use Rattle.std.specs.Prelude.{ℕ, ◌==◌, ◌&&◌, Bool, true, false, List, [], ◌∷◌, Some, None, map, if◌then◌else◌}
use Rattle.archive_tree.specs.Data.{Stamp, PlainAlt, PlainNode, inner_node, leaf_node, PlainNodes, no_nodes, node}
use Rattle.new_archive.specs.Full.{FullAlt, PlainFull, full_inner, full_leaf, PlainFulls, no_fulls, full}

-- whether two lists of intervals are the same
abbrev pub same_pairs : List (ℕ × ℕ) → List (ℕ × ℕ) → Bool
same_pairs [] [] = true
same_pairs [] (q ∷ qs) = false
same_pairs (p ∷ ps) [] = false
same_pairs (p ∷ ps) (q ∷ qs) = (p.0 == q.0 && p.1 == q.1) && same_pairs ps qs

-- the stamp of what has the set s under a parent that has q
abbrev pub seal_stamp : List (ℕ × ℕ) → List (ℕ × ℕ) → Stamp
seal_stamp q s = if same_pairs s q then None else Some s

-- an alternative of a leaf that has q
abbrev pub seal_alt : List (ℕ × ℕ) → FullAlt → PlainAlt
seal_alt q a = record { stamp = seal_stamp q a.numbers; body = a.body }

abbrev mutual
  -- a node under a parent that has q
  pub seal : List (ℕ × ℕ) → PlainFull → PlainNode
  seal q (full_inner l s ks) = inner_node l (seal_stamp q s) (seal_row s ks)
  seal q (full_leaf l s xs) = leaf_node l (seal_stamp q s) (map (seal_alt s) xs)

  pub seal_row : List (ℕ × ℕ) → PlainFulls → PlainNodes
  seal_row q no_fulls = no_nodes
  seal_row q (full k ks) = node (seal q k) (seal_row q ks)
