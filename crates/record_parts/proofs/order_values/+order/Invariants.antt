use Rattle.std.proofs.Common.{◌+◌, ◌*◌, ◌-◌, drop, map}
use Rattle.xa_fields.specs.Reading.{many_at}
use Rattle.jsonml_tree.specs.Order.{tree_cmp}
use Rattle.jsonml_tree.specs.View.{tree_view}
use Rattle.record_parts.specs.Reading.{item_at}
use Rattle.record_parts.proofs.Leads.{Leads}
use Rattle.record_parts.proofs.order_values.+order.Given as goal

abbrev pub decreases-order_content : goal.decreases-order_content
decreases-order_content l = 5 * l.depth + 4

abbrev pub decreases-order_items : goal.decreases-order_items
decreases-order_items l = 5 * l.depth + 3

abbrev pub decreases-order_item : goal.decreases-order_item
decreases-order_item l = 5 * l.depth + 2

abbrev pub decreases-order_element : goal.decreases-order_element
decreases-order_element l = 5 * l.depth + 1

abbrev pub decreases-order_content_below : goal.decreases-order_content_below
decreases-order_content_below l = 5 * l.depth + 0

-- what is left decides
abbrev pub invariant-order_items-loop : goal.invariant-order_items-loop
invariant-order_items-loop l =
    record {
      leads : Leads tree_cmp (many_at (item_at l.depth) l.count (drop l.fn.at l.bytes)) (map tree_view l.others) (many_at (item_at l.depth) (l.count - l.counter) (drop l.at l.bytes)) (map tree_view l.rest);
    }
