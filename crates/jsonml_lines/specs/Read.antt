-- What a JSON value spells in a line.
use Rattle.std.specs.Prelude.{ℕ, ◌+◌, ◌==◌, List, [], ◌∷◌, take, drop, Option, Some, None, option_map, option_and_then, if◌then◌else◌}
use Rattle.std.specs.List.{position}
use Rattle.std.specs.Str.{is_utf8}
use Rattle.serde_json.specs.Read.{read}
use Rattle.serde_json.specs.Data.{Data, null, boolean, number, string, array, object, Items, no_items, item}
use Rattle.jsonml_text.specs.Spelled.{scalar_in, content_in}
use Rattle.keyed_tree.specs.Data.{PlainKey, scalar, inside}
use Rattle.jsonml_lines.specs.Lines.{PlainLine}

-- an array is a content, and all else a scalar
abbrev pub cell_in : Data → Option PlainKey
cell_in null = option_map scalar (scalar_in null)
cell_in (boolean b) = option_map scalar (scalar_in (boolean b))
cell_in (number n) = option_map scalar (scalar_in (number n))
cell_in (string s) = option_map scalar (scalar_in (string s))
cell_in (array ds) = option_map inside (content_in ds)
cell_in (object ms) = option_map scalar (scalar_in (object ms))

-- the cells of all values, where each spells one
abbrev pub cells_in : Items → Option (List PlainKey)
cells_in no_items = Some []
cells_in (item d ds) = option_and_then (λ k. option_map (λ ks. k ∷ ks) (cells_in ds)) (cell_in d)

-- a string in front is the word
abbrev pub word_in : Data → Items → Option PlainLine
word_in null ds = None
word_in (boolean b) ds = None
word_in (number n) ds = None
word_in (string s) ds = option_map (λ ks. record { word = s; cells = ks }) (cells_in ds)
word_in (array es) ds = None
word_in (object ms) ds = None

abbrev pub words_in : Items → Option PlainLine
words_in no_items = None
words_in (item d ds) = word_in d ds

-- the line that a value spells, if it spells one
abbrev pub line_in : Data → Option PlainLine
line_in null = None
line_in (boolean b) = None
line_in (number n) = None
line_in (string s) = None
line_in (array ds) = words_in ds
line_in (object ms) = None

-- the line that stands in front of a line feed: UTF-8 that `serde_json` reads as one value, and that spells a line
unfoldable pub line_of : List ℕ → Option PlainLine
line_of front = if is_utf8 front then option_and_then line_in (read front) else None

-- the bytes in front of the one at a place, and those behind it
abbrev pub cut : List ℕ → ℕ → List ℕ × List ℕ
cut bytes i = (take i bytes, drop (i + 1) bytes)

-- the line up to the first line feed, and what stands behind that
abbrev pub line_at : List ℕ → Option (PlainLine × List ℕ)
line_at bytes = option_and_then (λ i. option_map (λ l. (l, drop (i + 1) bytes)) (line_of (take i bytes))) (position (λ b. b == 10) bytes)
