use Rattle.std.proofs.Common.{◌≡◌, [], map, take, drop}
use Rattle.key_spec.specs.View.{names_view}
use Rattle.csv_tables.specs.Columns.{column_view, columns_of}
use Rattle.csv_tables.specs.Records.{repeats}
use Rattle.csv_tables.proofs.columns.columns_of.Given as goal

-- the columns so far are in order, and what is left decides whether two have one name
abbrev pub invariant-loop-at : goal.invariant-loop-at
invariant-loop-at l =
    (map column_view l.columns.keys ≡ columns_of (names_view (take l.at l.heading)))
    × (repeats [] (names_view l.heading) ≡ repeats (names_view (take l.at l.heading)) (names_view (drop l.at l.heading)))
