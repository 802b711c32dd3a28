-- The columns of a table, in the order of their names.
use Rattle.std.specs.Prelude.{ℕ, ◌+◌, List, [], ◌∷◌, fold, get_or}
use Rattle.std.specs.BTreeSet.{replace_key}
use Rattle.std.specs.Cmp.{IsTotalOrder}
use Rattle.std.specs.declared.cmp.Ordering.{Ordering}
use Rattle.std.proofs.lemmas.Cmp.{nat_list_cmp_total, on_total}
use Rattle.jsonml_tree.specs.Data.{PlainAttr, string}
use Rattle.jsonml_tree.specs.Order.{text_cmp}
use Rattle.csv_tables.specs.declared.column.Column.{Column}

-- a column: its name, and its number from 0
pub record PlainColumn : Type 0 where
  pub name : List ℕ
  pub at : ℕ

abbrev pub column_view : Column → PlainColumn
column_view c = record { name = c.name.now; at = c.at }

-- by their names
abbrev pub column_cmp : PlainColumn → PlainColumn → Ordering
column_cmp c d = text_cmp c.name d.name

pub column_cmp_total : IsTotalOrder column_cmp
column_cmp_total = on_total (λ (c : PlainColumn). c.name) nat_list_cmp_total

-- the columns of these names, the first of which has this number
abbrev pub numbered : ℕ → List (List ℕ) → List PlainColumn
numbered n [] = []
numbered n (name ∷ names) = record { name = name; at = n } ∷ numbered (n + 1) names

-- the columns of a heading, ascending by their names
abbrev pub columns_of : List (List ℕ) → List PlainColumn
columns_of heading = fold (replace_key column_cmp) [] (numbered 0 heading)

-- a row's field in a column, as an attribute
abbrev pub cell_at : List (List ℕ) → PlainColumn → PlainAttr
cell_at fields c = record { name = c.name; value = string (get_or fields c.at []) }
