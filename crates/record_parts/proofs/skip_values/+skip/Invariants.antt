use Rattle.std.proofs.Common.{◌≡◌, ◌≤◌, ◌+◌, ◌*◌, ◌-◌, length, drop}
use Rattle.xa_fields.specs.Reading.{many_at}
use Rattle.record_parts.specs.Behind.{behind}
use Rattle.record_parts.specs.Reading.{item_at}
use Rattle.record_parts.proofs.skip_values.+skip.Given as goal

abbrev pub decreases-skip_content : goal.decreases-skip_content
decreases-skip_content l = 5 * l.depth + 4

abbrev pub decreases-skip_items : goal.decreases-skip_items
decreases-skip_items l = 5 * l.depth + 3

abbrev pub decreases-skip_item : goal.decreases-skip_item
decreases-skip_item l = 5 * l.depth + 2

abbrev pub decreases-skip_item_of : goal.decreases-skip_item_of
decreases-skip_item_of l = 5 * l.depth + 1

abbrev pub decreases-skip_content_below : goal.decreases-skip_content_below
decreases-skip_content_below l = 5 * l.depth + 0

-- behind what is left is behind it all
abbrev pub invariant-skip_items-loop : goal.invariant-skip_items-loop
invariant-skip_items-loop l =
    record {
      within : l.at ≤ length l.bytes;
      rest : behind (many_at (item_at l.depth) (l.count - l.counter) (drop l.at l.bytes)) ≡ behind (many_at (item_at l.depth) l.count (drop l.fn.at l.bytes));
    }
