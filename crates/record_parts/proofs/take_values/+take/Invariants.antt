use Rattle.std.proofs.Common.{◌≡◌, ◌≤◌, length, drop, map, ◌+◌, ◌-◌, ◌*◌}
use Rattle.jsonml_tree.specs.View.{tree_view}
use Rattle.xa_fields.specs.Reading.{many_at}
use Rattle.xa_fields.proofs.Loops.{with_front}
use Rattle.record_parts.specs.Reading.{item_at}
use Rattle.record_parts.proofs.take_values.+take.Given as goal

abbrev pub decreases-take_content : goal.decreases-take_content
decreases-take_content l = 5 * l.depth + 4

abbrev pub decreases-take_items : goal.decreases-take_items
decreases-take_items l = 5 * l.depth + 3

abbrev pub decreases-take_item : goal.decreases-take_item
decreases-take_item l = 5 * l.depth + 2

abbrev pub decreases-take_item_of : goal.decreases-take_item_of
decreases-take_item_of l = 5 * l.depth + 1

abbrev pub decreases-take_content_below : goal.decreases-take_content_below
decreases-take_content_below l = 5 * l.depth

-- what was read, in front of what the rest gives
abbrev pub invariant-take_items-loop : goal.invariant-take_items-loop
invariant-take_items-loop l =
    record {
      within : l.at ≤ length l.bytes;
      read : with_front (map tree_view l.items.items) (many_at (item_at l.depth) (l.count - l.counter) (drop l.at l.bytes)) ≡ many_at (item_at l.depth) l.count (drop l.fn.at l.bytes);
    }
