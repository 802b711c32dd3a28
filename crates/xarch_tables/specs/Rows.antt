-- The rows of a table: what tells them apart, and their text; and the document that they make, if it satisfies its keys.
use Rattle.std.specs.Prelude.{ℕ, List, ◌∷◌, map, Result, Ok}
use Rattle.jsonml_print.specs.Printed.{tree_text}
use Rattle.jsonml_tree.specs.Data.{PlainTree}
use Rattle.csv_tables.specs.Documents.{row_tree}
use Rattle.csv_tables.specs.Keys.{cell}
use Rattle.key_spec.specs.Data.{PlainRule}
use Rattle.xarch_words.specs.Refusal.{Refusal}
use Rattle.xarch_parts.specs.Outcome.{and_then}
use Rattle.xarch_parts.specs.Readings.{keyed_of}

-- the fields of a row in the columns of these names
abbrev pub key_of : List (List ℕ) → List (List ℕ) → List (List ℕ) → List (List ℕ)
key_of heading names row = map (cell heading row) names

-- an item, behind a comma
abbrev pub item_text : PlainTree → List ℕ
item_text t = 44 ∷ tree_text t

-- a row of a table with this heading
abbrev pub row_text : List (List ℕ) → List (List ℕ) → List ℕ
row_text heading fields = item_text (row_tree heading fields)

-- the document, where it satisfies the keys
abbrev pub keyed_doc : List PlainRule → PlainTree → Result PlainTree Refusal
keyed_doc rules t = and_then (keyed_of rules t) (λ _. Ok t)
