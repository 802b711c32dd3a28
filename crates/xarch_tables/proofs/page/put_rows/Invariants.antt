use Rattle.std.proofs.Common.{◌≡◌, ◌++◌}
use Rattle.std.specs.List.{flat_map}
use Rattle.key_spec.specs.View.{names_view}
use Rattle.csv_tables.specs.Records.{IsRegular}
use Rattle.csv_tables.specs.View.{rows_view, table_view}
use Rattle.xarch_tables.specs.Rows.{row_text}
use Rattle.xarch_tables.proofs.page.put_rows.Given as goal

-- the rows so far: those of the part are yet to be put
abbrev pub invariant-loop-row : goal.invariant-loop-row
invariant-loop-row l = record {
  heading : names_view l.part.heading.items ≡ (table_view l.fn.table).heading;
  regular : IsRegular (table_view l.part);
  text : l.page.bytes.items ++ flat_map (row_text (table_view l.fn.table).heading) (rows_view l.part.rows.items) ≡ l.fn.page.bytes.items ++ flat_map (row_text (table_view l.fn.table).heading) (rows_view l.yielded);
}
