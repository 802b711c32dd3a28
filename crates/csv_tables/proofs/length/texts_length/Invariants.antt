use Rattle.std.proofs.Common.{◌≡◌, take}
use Rattle.key_spec.specs.View.{names_view}
use Rattle.csv_tables.specs.Lengths.{at_most, sizes}
use Rattle.csv_tables.proofs.length.texts_length.Given as goal

abbrev pub invariant-loop-text : goal.invariant-loop-text
invariant-loop-text l = l.length ≡ at_most (sizes (names_view (take l.text-index l.texts)))
