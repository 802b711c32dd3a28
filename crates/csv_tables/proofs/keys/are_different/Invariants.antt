use Rattle.std.proofs.Common.{◌≡◌, [], take, drop}
use Rattle.key_spec.specs.View.{names_view}
use Rattle.csv_tables.specs.Records.{repeats}
use Rattle.csv_tables.proofs.keys.are_different.Given as goal

-- what is left decides
abbrev pub invariant-loop-at : goal.invariant-loop-at
invariant-loop-at l = repeats [] (names_view l.keys) ≡ repeats (names_view (take l.at l.keys)) (names_view (drop l.at l.keys))
