use Rattle.std.proofs.Common.{◌≡◌, ◌≤◌, ◌+◌, ◌*◌, take, drop}
use Rattle.std.specs.List.{flat_map}
use Rattle.xa_outside.specs.Taken.{Takes}
use Rattle.jsonml_tree.specs.Data.{tree_depth, content_depth, trees_depth}
use Rattle.jsonml_tree.specs.LentView.{lent_tree_view, lent_row_view, lent_items_view}
use Rattle.jsonml_print.specs.Calls.{printed, reached, AllMayCome, calls_of}
use Rattle.jsonml_print.proofs.print.+print_lent.Given as goal

-- how deep elements nest, and how far a function is from the next level

abbrev pub decreases-print_lent_tree : goal.decreases-print_lent_tree
decreases-print_lent_tree g l = 4 * tree_depth (lent_tree_view l.tree.now)

abbrev pub decreases-print_lent_items : goal.decreases-print_lent_items
decreases-print_lent_items g l = 4 * trees_depth (lent_items_view l.items.now) + 1

abbrev pub decreases-print_lent_row : goal.decreases-print_lent_row
decreases-print_lent_row g l = 4 * content_depth (lent_row_view l.row.now) + 2

abbrev pub decreases-print_lent_element : goal.decreases-print_lent_element
decreases-print_lent_element g l = 4 * content_depth (lent_row_view l.row.now) + 3

abbrev pub invariant-print_lent_items-loop-item : goal.invariant-print_lent_items-loop-item
invariant-print_lent_items-loop-item g l =
    record {
      bytes : Takes (g.K.Sink.taken l.initial.sink) (g.K.Sink.taken l.sink) (printed l.initial.printer (flat_map (λ t. calls_of (lent_tree_view t)) (take l.item-index l.items)));
      pen : l.printer ≡ reached l.initial.printer (flat_map (λ t. calls_of (lent_tree_view t)) (take l.item-index l.items));
      rest : AllMayCome l.printer (flat_map (λ t. calls_of (lent_tree_view t)) (drop l.item-index l.items));
      shallow : trees_depth (lent_items_view (drop l.item-index l.items)) ≤ trees_depth (lent_items_view l.items);
      later : g.K.Sink.faults l.initial.sink ≤ g.K.Sink.faults l.sink;
    }
