-- The specification of a table's document: under the root each row is told apart by its fields in the key columns.
use Rattle.std.specs.Prelude.{◌≡◌, ◌≢◌, ◌↔◌, ℕ, ◌≤◌, ◌<◌, true, false, Bool, List, [], ◌∷◌, map, length, get_or, codes, Some, None, bytes_eq, if◌then◌else◌}
use Rattle.std.specs.List.{list_all}
use Rattle.key_spec.specs.Data.{PlainPath, PlainRule}
use Rattle.key_spec.specs.Names.{is_name}
use Rattle.key_rules.specs.Faults.{first_fault}
use Rattle.key_rules.specs.Satisfies.{Satisfies}
use Rattle.csv_tables.specs.Data.{PlainTable}
use Rattle.csv_tables.specs.Records.{has_field, repeats, IsRegular}
use Rattle.csv_tables.specs.Documents.{table_tree}

-- the key path of an attribute of the target itself
abbrev pub attribute_path : List ℕ → PlainPath
attribute_path name = record { tags = []; attr = Some name }

abbrev pub rule_at : List (List ℕ) → List ℕ → List PlainPath → PlainRule
rule_at context tag paths = record { context = context; tag = tag; paths = paths }

-- The root has one element of the tag, and that one rows, which are keyed by these columns. The last rule makes each row
-- an inner element, so that each of its fields is told apart from the others.
unfoldable pub table_rules : List ℕ → List (List ℕ) → List PlainRule
table_rules tag keys =
    rule_at [] tag [] ∷
    rule_at (tag ∷ []) (codes "row") (map attribute_path keys) ∷
    rule_at (tag ∷ codes "row" ∷ []) (codes "cell") [] ∷
    []

-- names of key columns: from 1 to 16 of them, each a name, and all different
pub record AreKeys (keys : List (List ℕ)) : Type 0 where
  pub some : 1 ≤ length keys
  pub few : length keys ≤ 16
  pub named : list_all is_name keys ≡ true
  pub different : repeats [] keys ≡ false

-- the field of a row in the column of this name
abbrev pub cell : List (List ℕ) → List (List ℕ) → List ℕ → List ℕ
cell [] fields name = []
cell (column ∷ columns) [] name = []
cell (column ∷ columns) (field ∷ fields) name = if bytes_eq column name then field else cell columns fields name

-- two rows have the same fields in all key columns
abbrev pub agree : List (List ℕ) → List (List ℕ) → List (List ℕ) → List (List ℕ) → Bool
agree heading keys row other = list_all (λ name. bytes_eq (cell heading row name) (cell heading other name)) keys

-- no two rows at different places agree
abbrev pub AreApart : PlainTable → List (List ℕ) → Type 0
AreApart table keys =
    (i j : ℕ) → i < length table.rows → j < length table.rows → i ≢ j → agree table.heading keys (get_or table.rows i []) (get_or table.rows j []) ≡ false

-- a regular table that has these columns makes a document that satisfies their keys exactly where no two rows agree
abbrev pub SatisfiesItsKeys : PlainTable → List ℕ → List (List ℕ) → Type 0
SatisfiesItsKeys table tag keys =
    IsRegular table → list_all (has_field table.heading) keys ≡ true → Satisfies (table_rules tag keys) (table_tree table tag) ↔ AreApart table keys

-- the document has no first fault exactly where it satisfies the keys
abbrev pub IsFaultlessByItsKeys : PlainTable → List ℕ → List (List ℕ) → Type 0
IsFaultlessByItsKeys table tag keys = (first_fault (table_rules tag keys) (table_tree table tag) ≡ None) ↔ Satisfies (table_rules tag keys) (table_tree table tag)
