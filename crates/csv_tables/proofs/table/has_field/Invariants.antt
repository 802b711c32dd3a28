use Rattle.std.proofs.Common.{◌≡◌, drop, string_bytes}
use Rattle.key_spec.specs.View.{names_view}
use Rattle.csv_tables.specs.Records.{has_field}
use Rattle.csv_tables.proofs.table.has_field.Given as goal

-- what is left decides
abbrev pub invariant-loop-field : goal.invariant-loop-field
invariant-loop-field l = has_field (names_view l.heading) (string_bytes l.name) ≡ has_field (names_view (drop l.field-index l.heading)) (string_bytes l.name)
