-- How many bytes of an archive's file are read for a version, where it is looked for in stored sets by halving.
use Rattle.std.specs.Prelude.{ℕ, ◌+◌, ◌*◌, ◌/◌, min, nat_le, List, [], ◌∷◌, length, Some, None, if◌then◌else◌}
use Rattle.version_set.specs.Members.{members, has, upto_pairs}
use Rattle.archive_tree.specs.Data.{Stamp, PlainAlt, PlainNode, inner_node, leaf_node, PlainNodes, no_nodes, node, node_stamp, PlainArchive}
use Rattle.timestamp_tree.specs.Data.{PlainTs, leaf, node as inner}
use Rattle.timestamp_tree.specs.Search.{answers}
use Rattle.timestamp_tree.specs.Tree.{tree_of}
use Rattle.record_parts.specs.Spelling.{value_bytes}
use Rattle.record_format.specs.Data.{inner_rec, leaf_rec}
use Rattle.record_format.specs.Files.{root_pieces}
use Rattle.record_format.specs.Nodes.{set_in, node_pieces}
use Rattle.record_format.specs.Probed.{most_probes}
use Rattle.record_format.specs.Seen.{piece_sets}
use Rattle.record_format.specs.Spelling.{rec_bytes}

-- ---- sets

-- how many of so many intervals are read at most: all of eight or fewer; of more the one in the middle and half of them, and no more than four and as many as their number has binary digits
unfoldable pub searched : ℕ → ℕ
searched n = if nat_le n 8 then n else min (1 + n / 2) (4 + most_probes n)

-- of a stored leaf of so many intervals: their number, the size of the left part, and those that are read
abbrev pub leaf_read : ℕ → ℕ
leaf_read n = 12 + 8 * searched n

-- of a stored node with parts, of so many intervals: all bytes, or of more than eight intervals the first twenty bytes, the size of the left part, and those that are read
abbrev pub inner_read : ℕ → ℕ
inner_read n = if nat_le n 8 then 12 + 8 * n else 28 + 8 * searched n

-- of the nodes of a stored tree that a search for i visits
abbrev pub tree_read : PlainTs → ℕ → ℕ
tree_read (leaf s) i = leaf_read (length s)
tree_read (inner s n l r) i = if has (members s) i then inner_read (length s) + tree_read l i + tree_read r i else inner_read (length s)

-- ---- directories

-- of the tree over these sets, where there are any
abbrev pub sets_read : List (List (ℕ × ℕ)) → ℕ → ℕ
sets_read [] i = 0
sets_read (s ∷ ss) i = tree_read (tree_of (s ∷ ss)) i

-- the kind and the length of the END, the number of children, what is read of the tree, and an entry for each answer
abbrev pub dir_read : ℕ → List (List (ℕ × ℕ)) → ℕ
dir_read i sets = 13 + (sets_read sets i + 24 * length (answers sets i))

-- ---- nodes

-- of an alternative without its body: its kind, its length, and whether its timestamp is stored; of a stored one the number of its intervals, and those that are read
abbrev pub stamp_read : Stamp → ℕ
stamp_read None = 10
stamp_read (Some s) = 14 + 8 * searched (length s)

-- of a leaf that has this set: of the alternatives up to the first that has i, and the body of that one
abbrev pub alts_read : ℕ → List (ℕ × ℕ) → List PlainAlt → ℕ
alts_read i set [] = 0
alts_read i set (x ∷ xs) = stamp_read x.stamp + (if has (members (set_in x.stamp set)) i then length (value_bytes x.body) else alts_read i set xs)

abbrev mutual
  -- of a node that has i, under a parent that has this set: the record that opens it, and what is inside
  pub node_read : ℕ → List (ℕ × ℕ) → PlainNode → ℕ
  node_read i parent (inner_node l s ks) = length (rec_bytes (inner_rec l s)) + dir_read i (piece_sets (node_pieces (set_in s parent) ks)) + row_read i (set_in s parent) ks
  node_read i parent (leaf_node l s xs) = length (rec_bytes (leaf_rec l s)) + alts_read i (set_in s parent) xs

  -- of those nodes of a row that have i
  pub row_read : ℕ → List (ℕ × ℕ) → PlainNodes → ℕ
  row_read i parent no_nodes = 0
  row_read i parent (node k ks) = (if has (members (set_in (node_stamp k) parent)) i then node_read i parent k else 0) + row_read i parent ks

-- of the virtual root and of every node that version i has
abbrev pub bytes_read : PlainArchive → ℕ → ℕ
bytes_read a i = dir_read i (piece_sets (root_pieces a)) + row_read i (upto_pairs a.n) a.kids
