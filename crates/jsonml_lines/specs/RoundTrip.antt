-- Which lines are read back as they were printed.
use Rattle.std.specs.Prelude.{◌≡◌, ℕ, ◌≤◌, ◌==◌, not, Bool, List, IsTrue, Some, option_and_then}
use Rattle.std.specs.List.{AllByRecursion, list_all}
use Rattle.std.specs.Str.{IsUtf8}
use Rattle.serde_json.specs.Read.{read}
use Rattle.jsonml_tree.specs.Data.{content_depth}
use Rattle.jsonml_tree.specs.declared.limits.TheConstants.{GREATEST_DEPTH}
use Rattle.jsonml_text.specs.Texts.{IsScalarText, AreContentTexts}
use Rattle.keyed_tree.specs.Data.{PlainKey, scalar, inside}
use Rattle.keyed_tree.specs.WellFormed.{is_key_well_formed}
use Rattle.jsonml_lines.specs.Lines.{PlainLine, cell_text, front_text}
use Rattle.jsonml_lines.specs.Read.{cell_in, line_in}

abbrev pub AreCellTexts : PlainKey → Type 0
AreCellTexts (scalar s) = IsScalarText s
AreCellTexts (inside c) = AreContentTexts c

abbrev pub cell_depth : PlainKey → ℕ
cell_depth (scalar s) = 0
cell_depth (inside c) = content_depth c

-- the cell is well formed, and its elements nest at most so deep
pub record IsCell (k : PlainKey) : Type 0 where
  pub well_formed : IsTrue (is_key_well_formed k)
  pub shallow : cell_depth k ≤ GREATEST_DEPTH

abbrev pub IsLine : PlainLine → Type 0
IsLine l = AllByRecursion IsCell l.cells

-- the word and the texts of the cells are UTF-8
pub record AreLineTexts (l : PlainLine) : Type 0 where
  pub word : IsUtf8 l.word
  pub cells : AllByRecursion AreCellTexts l.cells

-- no line feed is among the bytes
abbrev pub is_unbroken : List ℕ → Bool
is_unbroken bytes = list_all (λ b. not (b == 10)) bytes

abbrev pub CellReadsBack : PlainKey → Type 0
CellReadsBack k = IsCell k → option_and_then cell_in (read (cell_text k)) ≡ Some k

pub record ReadsBack (l : PlainLine) : Type 0 where
  pub unbroken : IsTrue (is_unbroken (front_text l))
  pub value : option_and_then line_in (read (front_text l)) ≡ Some l
  pub utf8 : AreLineTexts l → IsUtf8 (front_text l)
