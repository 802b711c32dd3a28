use Rattle.std.proofs.Common.{◌≡◌, ◌+◌, ◌*◌, ◌≤◌, drop, IsTrue}
use Rattle.jsonml_tree.specs.Data.{tree_depth, trees_depth}
use Rattle.jsonml_tree.specs.View.{tree_view, items_view}
use Rattle.jsonml_text.specs.Document.{too_deep_from}
use Rattle.jsonml_tree.specs.Fits.{all_items_fit}
use Rattle.jsonml_text.proofs.level.+levels.Given as goal

abbrev pub decreases-finds_too_deep : goal.decreases-finds_too_deep
decreases-finds_too_deep l = 2 * tree_depth (tree_view l.tree.now)

abbrev pub decreases-finds_among : goal.decreases-finds_among
decreases-finds_among l = 2 * trees_depth (items_view l.items.now) + 1

-- what is left decides
abbrev pub invariant-finds_among-loop-item : goal.invariant-finds_among-loop-item
invariant-finds_among-loop-item l =
    record {
      counted : l.position ≡ l.item-index;
      place : l.place.items ≡ l.initial.place.items;
      shallow : trees_depth (items_view (drop l.item-index l.items)) ≤ trees_depth (items_view l.items);
      fit : IsTrue (all_items_fit (items_view (drop l.item-index l.items)));
      rest : too_deep_from l.initial.place.items 1 (items_view l.items) ≡ too_deep_from l.initial.place.items (l.item-index + 1) (items_view (drop l.item-index l.items));
    }
