use Rattle.std.proofs.Common.{◌≡◌, ◌+◌, take}
use Rattle.key_spec.specs.View.{names_view}
use Rattle.csv_tables.specs.Lengths.{at_most, quoted_size, frame, rows_size}
use Rattle.csv_tables.specs.View.{rows_view}
use Rattle.csv_tables.proofs.length.text_length.Given as goal

abbrev pub invariant-loop-fields : goal.invariant-loop-fields
invariant-loop-fields l = l.length ≡ at_most ((quoted_size l.tag + 3) + rows_size (frame (names_view l.table.heading.items)) (rows_view (take l.fields-index l.table.rows.items)))
