use Rattle.std.proofs.Common.{◌≡◌, ◌++◌, take}
use Rattle.key_spec.specs.Place.{lifted}
use Rattle.key_spec.proofs.place.push_lifted.Given as goal

abbrev pub invariant-loop-byte : goal.invariant-loop-byte
invariant-loop-byte l = l.bytes.items ≡ l.initial.bytes.items ++ lifted (take l.byte-index l.byte-items)
