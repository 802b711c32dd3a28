use Rattle.std.proofs.Common.{◌≡◌, ◌≤◌, ◌+◌, ◌*◌, length, map, drop, vec_len, vec_capacity}
use Rattle.serde_json.specs.Data.{depth, items_depth}
use Rattle.serde_json.specs.View.{view as data_of, items_view}
use Rattle.jsonml_tree.specs.View.{tree_view}
use Rattle.jsonml_text.specs.Spelled.{items_at}
use Rattle.jsonml_text.specs.Kept.{AreKept}
use Rattle.jsonml_text.proofs.Spelling.{onto}
use Rattle.jsonml_text.proofs.read.+read.Given as goal

-- how deep the values nest, and how far a function is from the next level

abbrev pub decreases-read_item : goal.decreases-read_item
decreases-read_item l = 5 * depth (data_of l.value.now)

abbrev pub decreases-read_item_at : goal.decreases-read_item_at
decreases-read_item_at l = 5 * depth (data_of l.value.now) + 1

abbrev pub decreases-read_items : goal.decreases-read_items
decreases-read_items l = 5 * items_depth (items_view l.values.now) + 2

abbrev pub decreases-read_content : goal.decreases-read_content
decreases-read_content l = 5 * items_depth (items_view l.values.now) + 3

abbrev pub decreases-read_element : goal.decreases-read_element
decreases-read_element l = 5 * items_depth (items_view l.values.now) + 4

-- what is left decides
abbrev pub invariant-read_items-loop-value : goal.invariant-read_items-loop-value
invariant-read_items-loop-value l =
    record {
      place : l.place.items ≡ l.initial.place.items;
      kept : AreKept (map tree_view l.items.items);
      shallow : items_depth (items_view (drop l.value-index l.values)) ≤ items_depth (items_view l.values);
      so_far : onto (map tree_view l.items.items) (items_at l.initial.place.items (length l.items.items + 1) (items_view (drop l.value-index l.values))) ≡ items_at l.initial.place.items 1 (items_view l.values);
      count : vec_len l.items ≡ l.value-index;
      room : vec_capacity l.items ≡ length l.values;
    }
