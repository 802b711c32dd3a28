-- Where the nodes of an archive stand in its file.
use Rattle.std.specs.Prelude.{◌≡◌, ℕ, ◌+◌, ◌-◌, ◌*◌, ◌≤◌, List, ◌++◌, length, map, Bool, true, IsTrue, nat_lt, Option}
use Rattle.std.specs.List.{AllByRecursion}
use Rattle.xa_outside.specs.Folder.{Files}
use Rattle.timestamp_tree.specs.Bytes.{tree_bytes}
use Rattle.timestamp_tree.specs.Tree.{tree_of}
use Rattle.archive_tree.specs.Data.{PlainNode, nodes_from}
use Rattle.record_parts.specs.Bounds.{deepest}
use Rattle.record_format.specs.Bounds.{IsRec}
use Rattle.record_format.specs.Nested.{is_nested, are_nested}
use Rattle.record_format.specs.Nodes.{closed_by_end, node_piece, node_pieces}
use Rattle.record_cursor.specs.Moves.{TellsFront}
use Rattle.file_rows.specs.StandsAt.{StandsAt, RowLaid, ChildLaid, start_in}
use Rattle.file_rows.specs.View.{PlainRow, PlainChild}
use Rattle.version_set.specs.Members.{members}
use Rattle.archive_tree.specs.Read.{read}
use Rattle.file_get.specs.Kids.{IsFilled, set_of, has_at, finds, all_find, kids_in, kid_fits, kids_fit}
use Rattle.file_get.specs.declared.span.Span.{Span}
use Rattle.file_get.specs.declared.span.Place.{Place}

-- These nodes are the children in a row, under a parent that has this set and below so many open elements.
pub record RowIs (bytes : List ℕ) (end depth : ℕ) (row : PlainRow) (parent : List (ℕ × ℕ)) (ks : List PlainNode) : Type 0 where
  pub stands : RowLaid bytes row (node_pieces parent (nodes_from ks))
  pub within : row.end + (9 + row.dir) ≤ end
  pub records : AllByRecursion IsRec (closed_by_end (node_pieces parent (nodes_from ks)))
  pub nested : IsTrue (are_nested (deepest - depth) (nodes_from ks))
  pub filled : IsFilled parent

-- The node is this child.
pub record ChildIs (bytes : List ℕ) (end depth : ℕ) (child : PlainChild) (parent : List (ℕ × ℕ)) (k : PlainNode) : Type 0 where
  pub stands : ChildLaid bytes child (node_piece parent k)
  pub within : child.end ≤ end
  pub records : AllByRecursion IsRec (node_piece parent k).records
  pub nested : IsTrue (is_nested (deepest - depth) k)

-- These nodes, behind so many others in their row, are the part of it, and the tree over their sets stands between its offsets.
pub record SpanIs (bytes : List ℕ) (row : PlainRow) (span : Span) (parent : List (ℕ × ℕ)) (front ks behind : List PlainNode) : Type 0 where
  pub position : span.position ≡ length front
  pub count : span.count ≡ length ks
  pub tree : StandsAt bytes span.at (tree_bytes (tree_of (map (set_of parent) ks)))
  pub limit : span.limit ≡ span.at + length (tree_bytes (tree_of (map (set_of parent) ks)))
  pub inside : span.limit ≤ row.end + (9 + row.dir)

-- the whole of a row, whose tree stands behind its entries
abbrev pub whole_of : PlainRow → ℕ → Span
whole_of row count = record { at = row.end + (13 + 24 * count); limit = row.end + (9 + row.dir); position = 0; count = count }

-- These nodes are a part of a row, and what version i has among them can be printed at this place.
pub record VisitIs (i : ℕ) (files : Option Files) (name bytes : List ℕ) (end : ℕ) (row : PlainRow) (span : Span) (place : Place) (parent : List (ℕ × ℕ)) (front ks behind : List PlainNode) : Type 0 where
  pub tells : TellsFront files name end bytes
  pub nodes : RowIs bytes end place.depth row parent (front ++ (ks ++ behind))
  pub part : SpanIs bytes row span parent front ks behind
  pub after : place.after ≤ start_in row.first (node_pieces parent (nodes_from (front ++ (ks ++ behind)))) (length front)
  pub bodies : all_find i parent ks ≡ true
  pub fits : IsTrue (kids_fit (nat_lt 0 place.depth) place.has_item (kids_in i parent ks))

-- This node is this child, and can be printed at this place, where version i has it.
pub record NodeIs (i : ℕ) (files : Option Files) (name bytes : List ℕ) (end : ℕ) (child : PlainChild) (depth : ℕ) (has_item : Bool) (parent : List (ℕ × ℕ)) (k : PlainNode) : Type 0 where
  pub tells : TellsFront files name end bytes
  pub is : ChildIs bytes end depth child parent k
  pub has : has_at i parent k ≡ true
  pub bodies : finds i parent k ≡ true
  pub fits : IsTrue (kid_fits (nat_lt 0 depth) has_item (read i (members parent) k))
