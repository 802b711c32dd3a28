-- The records of an archive's nodes, in preorder.
use Rattle.std.specs.Prelude.{ℕ, ◌+◌, List, [], ◌∷◌, ◌++◌, length, map, Some, None}
use Rattle.std.specs.List.{flat_map}
use Rattle.keyed_tree.specs.Data.{PlainLabel}
use Rattle.archive_tree.specs.Data.{Stamp, PlainAlt, PlainNode, inner_node, leaf_node, PlainNodes, no_nodes, node}
use Rattle.record_format.specs.Data.{PlainEntry, PlainDir, PlainRec, inner_rec, leaf_rec, alt_rec, end_rec, leaf_end}
use Rattle.record_format.specs.Spelling.{dir_bytes, rec_bytes}

-- What a node is in a file: its records, of which the first opens and the last closes it, the length of the body of its END,
-- or 0 for a leaf, and its effective set.
pub record Piece : Type 0 where
  pub records : List PlainRec
  pub dir : ℕ
  pub set : List (ℕ × ℕ)

abbrev pub piece_bytes : Piece → List ℕ
piece_bytes p = flat_map rec_bytes p.records

-- the entries of pieces in a row, the first of which stands at this offset
abbrev pub entries_from : ℕ → List Piece → List PlainEntry
entries_from at [] = []
entries_from at (p ∷ ps) = record { start = at; length = length (piece_bytes p); dir = p.dir } ∷ entries_from (at + length (piece_bytes p)) ps

-- the directory of the node that has these pieces as its children
abbrev pub dir_of : List Piece → PlainDir
dir_of ps = record { entries = entries_from 0 ps; sets = map (λ (p : Piece). p.set) ps }

-- the children of a node, and the END behind them
abbrev pub closed_by_end : List Piece → List PlainRec
closed_by_end ps = flat_map (λ (p : Piece). p.records) ps ++ end_rec (dir_of ps) ∷ []

abbrev pub alt_of : PlainAlt → PlainRec
alt_of a = alt_rec a.stamp a.body

-- the stored set, else the parent's
abbrev pub set_in : Stamp → List (ℕ × ℕ) → List (ℕ × ℕ)
set_in None parent = parent
set_in (Some s) parent = s

abbrev pub inner_piece : PlainLabel → Stamp → List (ℕ × ℕ) → List Piece → Piece
inner_piece l s set ps = record { records = inner_rec l s ∷ closed_by_end ps; dir = length (dir_bytes (dir_of ps)); set = set }

abbrev pub leaf_piece : PlainLabel → Stamp → List (ℕ × ℕ) → List PlainAlt → Piece
leaf_piece l s set xs = record { records = leaf_rec l s ∷ (map alt_of xs ++ leaf_end ∷ []); dir = 0; set = set }

abbrev mutual
  -- a node under a parent that has this set
  pub node_piece : List (ℕ × ℕ) → PlainNode → Piece
  node_piece parent (inner_node l s ks) = inner_piece l s (set_in s parent) (node_pieces (set_in s parent) ks)
  node_piece parent (leaf_node l s xs) = leaf_piece l s (set_in s parent) xs

  pub node_pieces : List (ℕ × ℕ) → PlainNodes → List Piece
  node_pieces parent no_nodes = []
  node_pieces parent (node k ks) = node_piece parent k ∷ node_pieces parent ks
