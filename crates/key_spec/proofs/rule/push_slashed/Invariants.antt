use Rattle.std.proofs.Common.{◌≡◌, ◌++◌, take, string_bytes}
use Rattle.key_spec.specs.Names.{slashed}
use Rattle.key_spec.specs.View.{names_view}
use Rattle.key_spec.proofs.rule.push_slashed.Given as goal

abbrev pub invariant-loop-name : goal.invariant-loop-name
invariant-loop-name l = string_bytes l.text ≡ string_bytes l.initial.text ++ slashed (names_view (take l.name-index l.names))
