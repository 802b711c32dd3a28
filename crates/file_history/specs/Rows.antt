-- Which nodes stand in a row, and what a search through rows has come to.
use Rattle.std.specs.Prelude.{◌≡◌, ◌≤◌, ◌+◌, ◌-◌, ℕ, List, length, Option, Some, None, IsTrue}
use Rattle.std.specs.List.{AllByRecursion}
use Rattle.version_set.specs.Members.{members}
use Rattle.key_spec.specs.Data.{PlainRule}
use Rattle.keyed_tree.specs.Data.{PlainLabel}
use Rattle.archive_tree.specs.Data.{PlainNodes, no_nodes, PlainArchive}
use Rattle.archive_tree.specs.Seek.{seek, AreRowsSorted}
use Rattle.xa_outside.specs.Folder.{Files}
use Rattle.xa_outside.specs.Numbers.{Numbers}
use Rattle.record_parts.specs.Bounds.{deepest}
use Rattle.record_format.specs.Bounds.{IsRec}
use Rattle.record_format.specs.Files.{HasFile, file_bytes, header_bytes}
use Rattle.record_format.specs.Nested.{are_nested}
use Rattle.record_format.specs.Nodes.{closed_by_end, node_pieces}
use Rattle.record_format.specs.Probed.{path_probed, path_steps}
use Rattle.record_cursor.specs.Moves.{TellsFront}
use Rattle.record_cursor.specs.View.{PlainHeader}
use Rattle.file_rows.specs.StandsAt.{RowLaid}
use Rattle.file_rows.specs.View.{PlainRow, row_view}
use Rattle.file_rows.specs.declared.places.Row.{Row}
use Rattle.file_rows.specs.declared.places.Child.{Child}
use Rattle.file_history.specs.Halving.{path_probes}
use Rattle.file_history.specs.Leads.{PlainSpot, lead, LastStands}
use Rattle.file_history.specs.Pulled.{PullsBut}

-- These nodes stand in the row of a file, under a parent that has the set, and below so many inner nodes that stand open.
pub record RowIs (told : Option Files) (name bytes : List ℕ) (depth : ℕ) (row : PlainRow) (parent : List (ℕ × ℕ)) (ks : PlainNodes) : Type 0 where
  pub size : ℕ
  pub tells : TellsFront told name size bytes
  pub stands : RowLaid bytes row (node_pieces parent ks)
  pub sorted : AreRowsSorted ks
  pub records : AllByRecursion IsRec (closed_by_end (node_pieces parent ks))
  pub nested : IsTrue (are_nested (deepest - depth) ks)

-- these nodes stand in the row, if there is one, and else there are none
abbrev pub InRow : Option Files → List ℕ → List ℕ → ℕ → Option Row → List (ℕ × ℕ) → PlainNodes → Type 0
InRow told name bytes depth (Some row) parent ks = RowIs told name bytes depth (row_view row) parent ks
InRow told name bytes depth None parent ks = ks ≡ no_nodes

-- A search for the path came to nodes where the rest of it leads to what the path leads to from the first; it takes as many steps
-- in all, and no more bytes.
pub record Reached (told : Option Files) (name bytes : List ℕ) (path : List PlainLabel) (first : List (ℕ × ℕ)) (from : PlainNodes) (rest : List PlainLabel) (depth : ℕ) (row : Option Row) (leaf : Option Child) (set : List (ℕ × ℕ)) (old new : Numbers) (began now : ℕ) : Type 0 where
  pub ks : PlainNodes
  pub there : InRow told name bytes depth row set ks
  pub leads : seek path (members first) from ≡ seek rest (members set) ks
  pub last : Option PlainSpot
  pub stands : LastStands bytes leaf set last
  pub way : lead path None first from ≡ lead rest last set ks
  pub less : PullsBut (path_probed path from) (path_probed rest ks) old new
  pub exact : now + path_probes rest ks ≡ began + path_probes path from
  pub fewer : now + path_steps rest ks ≤ began + path_steps path from

-- The file is that of an archive, whose header is this one.
pub record FileIs (told : Option Files) (name bytes : List ℕ) (h : PlainHeader) (a : PlainArchive) : Type 0 where
  pub tells : TellsFront told name h.length bytes
  pub rules : List PlainRule
  pub has : HasFile rules a
  pub spelled : bytes ≡ file_bytes rules a
  pub first : h.first ≡ length (header_bytes rules a.n)
  pub sorted : AreRowsSorted a.kids
  pub nested : IsTrue (are_nested deepest a.kids)
