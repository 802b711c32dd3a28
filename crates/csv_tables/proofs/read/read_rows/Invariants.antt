use Rattle.std.proofs.Common.{◌≡◌, ◌+◌, ℕ, List, [], ◌∷◌, length, Some, None}
use Rattle.csv_tables.specs.Records.{heading_why, first_bad}
use Rattle.csv_tables.specs.Steps.{Stands}
use Rattle.csv_tables.specs.View.{rows_view}
use Rattle.csv_tables.proofs.read.read_rows.Given as goal

abbrev pub invariant-loop-number : goal.invariant-loop-number
invariant-loop-number g l =
    (text : List ℕ) (heading : List (List ℕ)) → heading_why heading ≡ None → Stands g.R.Read.remaining l.initial.reader text (heading ∷ []) (Some (length heading))
    → Stands g.R.Read.remaining l.reader text (heading ∷ rows_view l.rows.items) (Some (length heading))
    × (first_bad (length heading) 2 (rows_view l.rows.items) ≡ None)
    × (l.number ≡ 2 + length (rows_view l.rows.items))
