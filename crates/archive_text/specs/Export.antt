-- The text of an archive with a note for each version.
use Rattle.std.specs.Prelude.{◌≡◌, ℕ, ◌+◌, ◌==◌, pos, List, [], ◌∷◌, ◌++◌, length, map, codes, Some, None, if◌then◌else◌}
use Rattle.std.specs.List.{flat_map}
use Rattle.version_set.specs.Text.{set_text}
use Rattle.jsonml_tree.specs.Data.{whole, string}
use Rattle.keyed_tree.specs.Data.{PlainName, attr, tag, PlainKey, scalar, PlainLabel}
use Rattle.key_spec.specs.Data.{PlainRule}
use Rattle.key_spec.specs.Canonical.{canonical}
use Rattle.archive_tree.specs.Data.{Stamp, PlainAlt, PlainNode, inner_node, leaf_node, PlainNodes, no_nodes, node, PlainArchive}
use Rattle.archive_tree.specs.Stands.{ArchiveOf}
use Rattle.noted_file.specs.Contents.{Contents}
use Rattle.jsonml_lines.specs.Lines.{PlainLine, line_text}
use Rattle.archive_text.specs.Texts.{text_lines}

-- ---- cells

abbrev pub text_cell : List ℕ → PlainKey
text_cell s = scalar (string s)

abbrev pub number_cell : ℕ → PlainKey
number_cell n = scalar (whole (pos n))

-- the printed set, and the empty text where the versions are those of the parent
abbrev pub stamp_text : Stamp → List ℕ
stamp_text None = []
stamp_text (Some s) = set_text s

-- the tag, or `@` and the attribute's name
abbrev pub name_text : PlainName → List ℕ
name_text (attr s) = 64 ∷ s
name_text (tag s) = s

-- ---- lines

-- how many versions there are
abbrev pub count_line : ℕ → PlainLine
count_line n = record { word = codes "xarch"; cells = number_cell n ∷ [] }

-- a line of the specification's canonical text
abbrev pub key_line : List ℕ → PlainLine
key_line line = record { word = codes "key"; cells = text_cell line ∷ [] }

-- the note of the version of that number
abbrev pub note_line : ℕ → List ℕ → PlainLine
note_line i note = record { word = codes "note"; cells = number_cell i ∷ text_cell note ∷ [] }

-- what begins a node: its versions, its name and its key values
abbrev pub node_begun : List ℕ → PlainLabel → Stamp → PlainLine
node_begun word l s = record { word = word; cells = text_cell (stamp_text s) ∷ text_cell (name_text l.name) ∷ l.keys }

-- what begins an inner node
abbrev pub open_line : PlainLabel → Stamp → PlainLine
open_line l s = node_begun (codes "open") l s

-- what begins a leaf
abbrev pub leaf_line : PlainLabel → Stamp → PlainLine
leaf_line l s = node_begun (codes "leaf") l s

abbrev pub alt_line : PlainAlt → PlainLine
alt_line x = record { word = codes "alt"; cells = text_cell (stamp_text x.stamp) ∷ x.body ∷ [] }

-- what ends a node
abbrev pub end_line : PlainLine
end_line = record { word = codes "end"; cells = [] }

-- ---- the whole

-- the notes that are not empty, the first of which belongs to the version of that number
abbrev pub note_lines : ℕ → List (List ℕ) → List PlainLine
note_lines i [] = []
note_lines i (note ∷ notes) = if length note == 0 then note_lines (i + 1) notes else note_line i note ∷ note_lines (i + 1) notes

abbrev mutual
  -- a node, with all that is below it
  pub node_lines : PlainNode → List PlainLine
  node_lines (inner_node l s ks) = open_line l s ∷ (nodes_lines ks ++ end_line ∷ [])
  node_lines (leaf_node l s xs) = leaf_line l s ∷ (map alt_line xs ++ end_line ∷ [])

  pub nodes_lines : PlainNodes → List PlainLine
  nodes_lines no_nodes = []
  nodes_lines (node k ks) = node_lines k ++ nodes_lines ks

abbrev pub lines_text : List PlainLine → List ℕ
lines_text ls = flat_map line_text ls

-- the number of versions, the specification, the notes, the nodes in preorder, and the end of the virtual root
abbrev pub export_text : List PlainRule → PlainArchive → List (List ℕ) → List ℕ
export_text rules a notes =
    line_text (count_line a.n) ++ (lines_text (map key_line (text_lines (canonical rules)))
    ++ (lines_text (note_lines 1 notes) ++ (lines_text (nodes_lines a.kids) ++ line_text end_line)))

-- the text is that of the archive of these versions, with these rules and notes
pub record ExportOf (c : Contents) (text : List ℕ) : Type 0 where
  pub archive : PlainArchive
  pub is : ArchiveOf c.versions archive
  pub spelled : text ≡ export_text c.rules archive c.notes
