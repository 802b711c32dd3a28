use Rattle.std.proofs.Common.{◌≡◌, ◌≤◌, ◌-◌, length, drop, map}
use Rattle.version_set.specs.View.{pairs_of}
use Rattle.xa_fields.specs.Reading.{many_at}
use Rattle.xa_fields.proofs.Loops.{with_front}
use Rattle.timestamp_tree.specs.Reading.{stored_at}
use Rattle.record_parts.specs.Bounds.{most}
use Rattle.record_format.specs.Reading.{with_leaf_sets}
use Rattle.record_format.proofs.take_directory.take_leaf_sets.Given as goal

-- what was read, in front of what the rest gives
abbrev pub invariant-loop : goal.invariant-loop
invariant-loop l =
    record {
      within : l.at ≤ length l.bytes;
      read : with_front (map pairs_of l.sets.items) (with_leaf_sets (many_at (stored_at most) (l.count - l.counter) (drop l.at l.bytes))) ≡ with_leaf_sets (many_at (stored_at most) l.count (drop l.fn.at l.bytes));
    }
