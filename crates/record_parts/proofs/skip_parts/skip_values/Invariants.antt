use Rattle.std.proofs.Common.{◌≡◌, ◌≤◌, ◌-◌, length, drop}
use Rattle.xa_fields.specs.Reading.{many_at}
use Rattle.record_parts.specs.Behind.{behind}
use Rattle.record_parts.specs.Reading.{value_at}
use Rattle.record_parts.proofs.skip_parts.skip_values.Given as goal

-- behind what is left is behind it all
abbrev pub invariant-loop : goal.invariant-loop
invariant-loop l =
    record {
      within : l.at ≤ length l.bytes;
      rest : behind (many_at value_at (l.count - l.counter) (drop l.at l.bytes)) ≡ behind (many_at value_at l.count (drop l.fn.at l.bytes));
    }
