use Rattle.std.proofs.Common.{◌≡◌, ◌≤◌, ◌-◌, length, drop, map}
use Rattle.xa_fields.specs.Reading.{many_at}
use Rattle.xa_fields.proofs.Loops.{with_front}
use Rattle.keyed_tree.specs.View.{key_view}
use Rattle.record_parts.specs.Reading.{value_at}
use Rattle.record_parts.proofs.take_parts.take_values.Given as goal

-- what was read, in front of what the rest gives
abbrev pub invariant-loop : goal.invariant-loop
invariant-loop l =
    record {
      within : l.at ≤ length l.bytes;
      read : with_front (map key_view l.values.items) (many_at value_at (l.count - l.counter) (drop l.at l.bytes)) ≡ many_at value_at l.count (drop l.fn.at l.bytes);
    }
