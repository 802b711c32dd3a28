use Rattle.std.proofs.Common.{◌≡◌, length, map, take, vec_len, vec_capacity}
use Rattle.jsonml_tree.specs.View.{attr_view}
use Rattle.key_spec.specs.View.{names_view}
use Rattle.csv_tables.specs.Columns.{column_view, cell_at}
use Rattle.csv_tables.proofs.tree.attributes.Given as goal

abbrev pub invariant-loop-column : goal.invariant-loop-column
invariant-loop-column l =
    (map attr_view l.attrs.items ≡ map (cell_at (names_view l.fields)) (map column_view (take l.column-index l.columns)))
    × (vec_len l.attrs ≡ l.column-index) × (vec_capacity l.attrs ≡ length l.columns)
