use Rattle.std.proofs.Common.{◌≡◌, take}
use Rattle.key_spec.specs.Place.{context_bytes}
use Rattle.key_spec.specs.RuleView.{names_view}
use Rattle.key_spec.proofs.place.place_of.Given as goal

abbrev pub invariant-loop-name : goal.invariant-loop-name
invariant-loop-name l = l.bytes.items ≡ context_bytes (names_view (take l.name-index l.name-items))
