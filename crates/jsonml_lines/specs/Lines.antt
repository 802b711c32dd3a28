-- The text of flat lines: JSON without blanks.
use Rattle.std.specs.Prelude.{ℕ, List, [], ◌∷◌, ◌++◌}
use Rattle.std.specs.List.{flat_map}
use Rattle.json.specs.Print.{quoted}
use Rattle.jsonml_print.specs.Printed.{scalar_text, array_text}
use Rattle.keyed_tree.specs.Data.{PlainKey, scalar, inside}

-- a scalar as itself, a content as an array
abbrev pub cell_text : PlainKey → List ℕ
cell_text (scalar s) = scalar_text s
cell_text (inside c) = array_text c

-- a line: a word and the cells behind it
pub record PlainLine : Type 0 where
  pub word : List ℕ
  pub cells : List PlainKey

-- each cell behind a comma
abbrev pub cells_text : List PlainKey → List ℕ
cells_text ks = flat_map (λ k. 44 ∷ cell_text k) ks

-- what stands in front of the line feed: an array of the word and the cells
abbrev pub front_text : PlainLine → List ℕ
front_text l = 91 ∷ (quoted l.word ++ (cells_text l.cells ++ 93 ∷ []))

abbrev pub line_text : PlainLine → List ℕ
line_text l = front_text l ++ 10 ∷ []
