use Rattle.std.proofs.Common.{◌≡◌, drop, string_bytes}
use Rattle.key_spec.specs.View.{names_view}
use Rattle.csv_tables.specs.Keys.{cell}
use Rattle.xarch_tables.proofs.apart.cell.Given as goal

-- what is left decides
abbrev pub invariant-loop-column : goal.invariant-loop-column
invariant-loop-column l =
    cell (names_view l.heading) (names_view l.row) (string_bytes l.name) ≡ cell (names_view (drop l.column-index l.heading)) (names_view l.fields.rest.now) (string_bytes l.name)
