use Rattle.std.proofs.Common.{◌≡◌, true, take}
use Rattle.std.specs.List.{list_all}
use Rattle.std.specs.Str.{is_utf8}
use Rattle.csv.specs.Records.{fields_of}
use Rattle.key_spec.specs.View.{names_view}
use Rattle.csv_tables.proofs.read.own_fields.Given as goal

abbrev pub invariant-loop-field : goal.invariant-loop-field
invariant-loop-field l =
    (l.field-iterator.row.now ≡ l.row) × (names_view l.texts.items ≡ take l.field-iterator.at (fields_of l.row)) × (list_all is_utf8 (take l.field-iterator.at (fields_of l.row)) ≡ true)
