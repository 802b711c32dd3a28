use Rattle.std.proofs.Common.{◌≡◌, ◌+◌, take, length}
use Rattle.json.specs.Print.{escape}
use Rattle.csv_tables.specs.Lengths.{at_most}
use Rattle.csv_tables.proofs.length.quoted_length.Given as goal

abbrev pub invariant-loop-byte : goal.invariant-loop-byte
invariant-loop-byte l = l.length ≡ at_most (2 + length (escape (take l.byte-index l.text)))
