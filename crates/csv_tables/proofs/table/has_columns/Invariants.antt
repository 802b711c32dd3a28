use Rattle.std.proofs.Common.{◌≡◌, drop}
use Rattle.std.specs.List.{list_all}
use Rattle.key_spec.specs.View.{names_view}
use Rattle.csv_tables.specs.Records.{has_field}
use Rattle.csv_tables.proofs.table.has_columns.Given as goal

-- what is left decides
abbrev pub invariant-loop-key : goal.invariant-loop-key
invariant-loop-key l =
    list_all (has_field (names_view l.table.heading.items)) (names_view l.keys)
    ≡ list_all (has_field (names_view l.table.heading.items)) (names_view (drop l.key-index l.keys))
