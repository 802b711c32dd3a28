use Rattle.std.proofs.Common.{◌≡◌, ◌≤◌, ◌-◌, length, drop, None}
use Rattle.std.specs.Option.{option_map}
use Rattle.record_parts.specs.Behind.{behind}
use Rattle.record_parts.specs.Reading.{attr_at, next_attr}
use Rattle.xa_fields.specs.Reading.{chain_at}
use Rattle.record_parts.proofs.skip_values.skip_each_attr.Given as goal

-- behind what is left is behind it all
abbrev pub invariant-loop : goal.invariant-loop
invariant-loop l =
    record {
      within : l.at ≤ length l.bytes;
      rest : behind (chain_at attr_at next_attr (option_map (λ s. s.now) l.last) (l.count - l.counter) (drop l.at l.bytes)) ≡ behind (chain_at attr_at next_attr None l.count (drop l.fn.at l.bytes));
    }
