use Rattle.std.proofs.Common.{◌+◌, ◌*◌, ◌-◌, ◌≤◌, drop}
use Rattle.xa_fields.specs.Reading.{many_at}
use Rattle.jsonml_tree.specs.Order.{tree_cmp}
use Rattle.record_parts.specs.Reading.{item_at}
use Rattle.record_parts.proofs.Both.{BothLead}
use Rattle.record_parts.proofs.order_both.+both.Given as goal

abbrev pub decreases-both_content : goal.decreases-both_content
decreases-both_content l = 5 * l.depth + 4

abbrev pub decreases-both_items : goal.decreases-both_items
decreases-both_items l = 5 * l.depth + 3

abbrev pub decreases-both_item : goal.decreases-both_item
decreases-both_item l = 5 * l.depth + 2

abbrev pub decreases-both_element : goal.decreases-both_element
decreases-both_element l = 5 * l.depth + 1

abbrev pub decreases-both_content_below : goal.decreases-both_content_below
decreases-both_content_below l = 5 * l.depth + 0

-- what is left of both decides
abbrev pub invariant-both_items-loop : goal.invariant-both_items-loop
invariant-both_items-loop l =
    record {
      within : l.counter ≤ l.shorter;
      lead : BothLead tree_cmp (many_at (item_at l.depth) l.count (drop l.fn.at l.ours)) (many_at (item_at l.depth) l.others (drop l.fn.there l.theirs)) (many_at (item_at l.depth) (l.count - l.counter) (drop l.at l.ours)) (many_at (item_at l.depth) (l.others - l.counter) (drop l.there l.theirs));
    }
