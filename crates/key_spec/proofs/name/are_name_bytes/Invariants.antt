use Rattle.std.proofs.Common.{◌≡◌, drop}
use Rattle.std.specs.List.{list_all}
use Rattle.key_spec.specs.Names.{is_name_byte}
use Rattle.key_spec.proofs.name.are_name_bytes.Given as goal

-- what is left decides
abbrev pub invariant-loop-b : goal.invariant-loop-b
invariant-loop-b l = list_all is_name_byte l.bytes ≡ list_all is_name_byte (drop l.b-index l.bytes)
