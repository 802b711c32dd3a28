-- What can be read from the lines of a text.
use Rattle.std.specs.Prelude.{◌≡◌, ◌≤◌, ◌-◌, ℕ, List, [], ◌∷◌, ◌++◌, length, map, replicate, Ok, Result, Err, ⊤, IsTrue}
use Rattle.std.specs.List.{AllByRecursion, flat_map}
use Rattle.jsonml_tree.specs.declared.limits.TheConstants.{GREATEST_DEPTH}
use Rattle.key_spec.specs.Data.{PlainRule}
use Rattle.key_spec.specs.Canonical.{canonical}
use Rattle.key_spec.specs.Closed.{closed}
use Rattle.keyed_tree.specs.Data.{PlainKeyed}
use Rattle.archive_tree.specs.Data.{PlainNode, PlainNodes, PlainArchive}
use Rattle.archive_tree.specs.Stands.{ArchiveOf}
use Rattle.record_format.specs.Shapes.{IsShapedNode, AreShapedNodes}
use Rattle.record_format.specs.Nested.{is_nested, are_nested}
use Rattle.record_parts.specs.Bounds.{most}
use Rattle.archive_file.specs.KeyedBy.{AreKeyedBy}
use Rattle.archive_file.specs.Sound.{SoundAs}
use Rattle.version_notes.specs.Notes.{IsNote}
use Rattle.noted_file.specs.Contents.{Contents}
use Rattle.noted_file.specs.Full.{FullAs}
use Rattle.jsonml_lines.specs.Lines.{PlainLine}
use Rattle.jsonml_lines.specs.RoundTrip.{IsLine, AreLineTexts}
use Rattle.archive_text.specs.Export.{count_line, key_line, note_lines, end_line, nodes_lines, lines_text}
use Rattle.archive_text.specs.Names.{HasNames, HaveNames}
use Rattle.archive_text.specs.Texts.{text_lines}
use Rattle.archive_text.specs.declared.fault.ReadFault.{ReadFault}
use Rattle.archive_text.specs.declared.fault.ReadFault.TheVariants.{Bad}

-- what was found, if memory sufficed: a text of which this is said is not bad
abbrev pub Finds : {X : Type 0} → Result X ReadFault → (X → Type 0) → Type 0
Finds (Ok x) P = P x
Finds (Err Bad) P = ⊥
Finds (Err other) P = ⊤

-- ---- lines

abbrev pub IsGoodLine : PlainLine → Type 0
IsGoodLine l = IsLine l × AreLineTexts l

-- the bytes are the text of these lines, each of which can be read back
pub record AreLines (ls : List PlainLine) (bytes : List ℕ) : Type 0 where
  pub good : AllByRecursion IsGoodLine ls
  pub spelled : bytes ≡ lines_text ls

-- each line behind a line feed of its own
abbrev pub rejoined : List (List ℕ) → List ℕ
rejoined ls = flat_map (λ l. l ++ 10 ∷ []) ls

-- the notes with empty ones behind them, until there are so many
abbrev pub padded : List (List ℕ) → ℕ → List (List ℕ)
padded notes n = notes ++ replicate (n - length notes) []

-- ---- nodes

-- the node can be told from its lines, and inner nodes nest at most so deep
pub record IsReadable (depth : ℕ) (k : PlainNode) : Type 0 where
  pub shaped : IsShapedNode k
  pub named : HasNames k
  pub nested : IsTrue (is_nested depth k)

pub record AreReadable (depth : ℕ) (ks : PlainNodes) : Type 0 where
  pub shaped : AreShapedNodes ks
  pub named : HaveNames ks
  pub nested : IsTrue (are_nested depth ks)

-- ---- the whole

-- the lines of an archive with notes
abbrev pub all_lines : List PlainRule → PlainArchive → List (List ℕ) → List PlainLine
all_lines rules a notes = count_line a.n ∷ (map key_line (text_lines (canonical rules)) ++ (note_lines 1 notes ++ (nodes_lines a.kids ++ end_line ∷ [])))

-- the bytes are the text of these parts, which can be told from it
pub record ArePartsOf (rules : List PlainRule) (a : PlainArchive) (notes : List (List ℕ)) (bytes : List ℕ) : Type 0 where
  pub specification : closed (canonical rules) ≡ Ok rules
  pub short : length (canonical rules) ≤ 1048576
  pub few : a.n ≤ most
  pub as_many : length notes ≡ a.n
  pub kids : AreReadable GREATEST_DEPTH a.kids
  pub lines : AreLines (all_lines rules a notes) bytes

-- the versions under the specification have a file with these notes
pub record HaveFile (c : Contents) : Type 0 where
  pub file : List ℕ
  pub is : FullAs c file

-- What is kept is as it has to be: not too many versions, a note for each, and a file.
pub record CanBeKept (rules : List PlainRule) (a : PlainArchive) (notes : List (List ℕ)) : Type 0 where
  pub few : a.n ≤ most
  pub as_many : length notes ≡ a.n
  pub each : AllByRecursion IsNote notes
  pub keyed : (vs : List PlainKeyed) → ArchiveOf vs a → AreKeyedBy rules vs
  pub file : (vs : List PlainKeyed) → ArchiveOf vs a → HaveFile (record { rules = rules; versions = vs; notes = notes })

-- It can be kept, and the bytes are the file of the versions.
pub record AreKeptAs (rules : List PlainRule) (a : PlainArchive) (notes : List (List ℕ)) (core : List ℕ) : Type 0 where
  pub kept : CanBeKept rules a notes
  pub sound : (vs : List PlainKeyed) → ArchiveOf vs a → SoundAs rules vs core
