use Rattle.std.proofs.Common.{◌≡◌, map}
use Rattle.csv_tables.specs.Columns.{column_view}
use Rattle.csv_tables.proofs.columns.in_order.Given as goal

abbrev pub invariant-loop-column : goal.invariant-loop-column
invariant-loop-column l = map column_view l.all.items ≡ map column_view l.yielded
