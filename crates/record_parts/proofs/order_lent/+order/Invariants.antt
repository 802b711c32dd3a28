use Rattle.std.proofs.Common.{◌+◌, ◌*◌, ◌-◌, drop, map}
use Rattle.xa_fields.specs.Reading.{many_at}
use Rattle.jsonml_tree.specs.LentView.{lent_tree_view}
use Rattle.jsonml_tree.specs.Order.{tree_cmp}
use Rattle.record_parts.specs.Reading.{item_at}
use Rattle.record_parts.proofs.Leads.{Leads}
use Rattle.record_parts.proofs.order_lent.+order.Given as goal

abbrev pub decreases-order_lent_content : goal.decreases-order_lent_content
decreases-order_lent_content l = 7 * l.depth + 6

abbrev pub decreases-order_lent_row : goal.decreases-order_lent_row
decreases-order_lent_row l = 7 * l.depth + 5

abbrev pub decreases-order_lent_items : goal.decreases-order_lent_items
decreases-order_lent_items l = 7 * l.depth + 4

abbrev pub decreases-order_lent_item : goal.decreases-order_lent_item
decreases-order_lent_item l = 7 * l.depth + 3

abbrev pub decreases-order_lent_element : goal.decreases-order_lent_element
decreases-order_lent_element l = 7 * l.depth + 2

abbrev pub decreases-order_lent_inside : goal.decreases-order_lent_inside
decreases-order_lent_inside l = 7 * l.depth + 1

abbrev pub decreases-order_lent_below : goal.decreases-order_lent_below
decreases-order_lent_below l = 7 * l.depth + 0

-- what is left decides
abbrev pub invariant-order_lent_items-loop : goal.invariant-order_lent_items-loop
invariant-order_lent_items-loop l =
    record {
      leads : Leads tree_cmp (many_at (item_at l.depth) l.count (drop l.fn.at l.bytes)) (map lent_tree_view l.others) (many_at (item_at l.depth) (l.count - l.counter) (drop l.at l.bytes)) (map lent_tree_view l.rest.rest.now);
    }
