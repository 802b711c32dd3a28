-- How many bytes of an archive's file a search for a version looks at, and how many nodes of timestamp trees.
use Rattle.std.specs.Prelude.{ℕ, ◌+◌, ◌*◌, List, [], ◌∷◌, length, map, if◌then◌else◌}
use Rattle.version_set.specs.Members.{members, has, upto_pairs}
use Rattle.archive_tree.specs.Data.{PlainAlt, PlainNode, inner_node, leaf_node, PlainNodes, no_nodes, node, node_stamp, PlainArchive}
use Rattle.timestamp_tree.specs.Search.{answers, visits, visited_bytes}
use Rattle.timestamp_tree.specs.Tree.{tree_of}
use Rattle.record_parts.specs.Spelling.{stamp_bytes}
use Rattle.record_format.specs.Data.{inner_rec, leaf_rec}
use Rattle.record_format.specs.Files.{root_pieces}
use Rattle.record_format.specs.Nodes.{Piece, alt_of, set_in, node_pieces}
use Rattle.record_format.specs.Spelling.{rec_bytes}

-- ---- directories

-- the nodes of the timestamp tree over these sets, where there are any, that a search for i visits
abbrev pub sets_visits : List (List (ℕ × ℕ)) → ℕ → ℕ
sets_visits [] i = 0
sets_visits (s ∷ ss) i = visits (tree_of (s ∷ ss)) i

-- and their bytes
abbrev pub sets_visited : List (List (ℕ × ℕ)) → ℕ → ℕ
sets_visited [] i = 0
sets_visited (s ∷ ss) i = visited_bytes (tree_of (s ∷ ss)) i

abbrev pub piece_sets : List Piece → List (List (ℕ × ℕ))
piece_sets ps = map (λ (p : Piece). p.set) ps

-- the kind and the length of the END, the number of children, the nodes that are visited, and an entry for each answer
abbrev pub dir_seen : ℕ → List (List (ℕ × ℕ)) → ℕ
dir_seen i sets = 13 + (sets_visited sets i + 24 * length (answers sets i))

-- ---- nodes

-- of a leaf that has this set: the kind, the length and the timestamp of each alternative, and the whole record of one that has i
abbrev pub alts_seen : ℕ → List (ℕ × ℕ) → List PlainAlt → ℕ
alts_seen i set [] = 0
alts_seen i set (x ∷ xs) = 9 + length (stamp_bytes x.stamp) + (if has (members (set_in x.stamp set)) i then length (rec_bytes (alt_of x)) else 0) + alts_seen i set xs

abbrev mutual
  -- of a node that has i, under a parent that has this set
  pub node_seen : ℕ → List (ℕ × ℕ) → PlainNode → ℕ
  node_seen i parent (inner_node l s ks) = length (rec_bytes (inner_rec l s)) + dir_seen i (piece_sets (node_pieces (set_in s parent) ks)) + row_seen i (set_in s parent) ks
  node_seen i parent (leaf_node l s xs) = length (rec_bytes (leaf_rec l s)) + alts_seen i (set_in s parent) xs + 9

  -- of those nodes of a row that have i
  pub row_seen : ℕ → List (ℕ × ℕ) → PlainNodes → ℕ
  row_seen i parent no_nodes = 0
  row_seen i parent (node k ks) = (if has (members (set_in (node_stamp k) parent)) i then node_seen i parent k else 0) + row_seen i parent ks

-- of the virtual root and of every node that version i has
abbrev pub seen : PlainArchive → ℕ → ℕ
seen a i = dir_seen i (piece_sets (root_pieces a)) + row_seen i (upto_pairs a.n) a.kids

-- ---- steps

abbrev mutual
  pub node_steps : ℕ → List (ℕ × ℕ) → PlainNode → ℕ
  node_steps i parent (inner_node l s ks) = sets_visits (piece_sets (node_pieces (set_in s parent) ks)) i + row_steps i (set_in s parent) ks
  node_steps i parent (leaf_node l s xs) = 0

  pub row_steps : ℕ → List (ℕ × ℕ) → PlainNodes → ℕ
  row_steps i parent no_nodes = 0
  row_steps i parent (node k ks) = (if has (members (set_in (node_stamp k) parent)) i then node_steps i parent k else 0) + row_steps i parent ks

-- the visits of the trees of the virtual root and of every inner node that version i has
abbrev pub steps_for : PlainArchive → ℕ → ℕ
steps_for a i = sets_visits (piece_sets (root_pieces a)) i + row_steps i (upto_pairs a.n) a.kids
