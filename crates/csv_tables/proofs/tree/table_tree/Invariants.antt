use Rattle.std.proofs.Common.{◌≡◌, length, map, take, vec_len, vec_capacity}
use Rattle.jsonml_tree.specs.View.{tree_view}
use Rattle.csv_tables.specs.Columns.{column_view}
use Rattle.csv_tables.specs.View.{rows_view}
use Rattle.csv_tables.proofs.RowLemmas.{row_by}
use Rattle.csv_tables.proofs.tree.table_tree.Given as goal

abbrev pub invariant-loop-row : goal.invariant-loop-row
invariant-loop-row l =
    (map tree_view l.items.items ≡ map (row_by (map column_view l.columns.items)) (rows_view (take l.row-index l.table.rows.items)))
    × (vec_len l.items ≡ l.row-index) × (vec_capacity l.items ≡ length l.table.rows.items)
