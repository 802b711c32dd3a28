use Rattle.std.proofs.Common.{◌≡◌, ◌≤◌, ◌-◌, length, drop, map}
use Rattle.xa_fields.specs.Reading.{many_at}
use Rattle.xa_fields.proofs.Loops.{with_front}
use Rattle.record_format.specs.View.{entry_view}
use Rattle.record_format.specs.Reading.{entry_at}
use Rattle.record_format.proofs.take_directory.take_entries.Given as goal

-- what was read, in front of what the rest gives
abbrev pub invariant-loop : goal.invariant-loop
invariant-loop l =
    record {
      within : l.at ≤ length l.bytes;
      read : with_front (map entry_view l.entries.items) (many_at entry_at (l.count - l.counter) (drop l.at l.bytes)) ≡ many_at entry_at l.count (drop l.fn.at l.bytes);
    }
