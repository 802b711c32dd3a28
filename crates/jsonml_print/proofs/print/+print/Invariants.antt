use Rattle.std.proofs.Common.{◌≡◌, ◌≤◌, ◌+◌, ◌*◌, take, drop}
use Rattle.std.specs.List.{flat_map}
use Rattle.xa_outside.specs.Taken.{Takes}
use Rattle.jsonml_tree.specs.Data.{tree_depth, content_depth, trees_depth}
use Rattle.jsonml_tree.specs.View.{tree_view, content_view, items_view}
use Rattle.jsonml_print.specs.Calls.{printed, reached, AllMayCome, calls_of}
use Rattle.jsonml_print.proofs.print.+print.Given as goal

-- how deep elements nest, and how far a function is from the next level

abbrev pub decreases-print_tree : goal.decreases-print_tree
decreases-print_tree g l = 4 * tree_depth (tree_view l.tree.now)

abbrev pub decreases-print_items : goal.decreases-print_items
decreases-print_items g l = 4 * trees_depth (items_view l.items.now) + 1

abbrev pub decreases-print_content : goal.decreases-print_content
decreases-print_content g l = 4 * content_depth (content_view l.content.now) + 2

abbrev pub decreases-print_element : goal.decreases-print_element
decreases-print_element g l = 4 * content_depth (content_view l.content.now) + 3

abbrev pub invariant-print_items-loop-item : goal.invariant-print_items-loop-item
invariant-print_items-loop-item g l =
    record {
      bytes : Takes (g.K.Sink.taken l.initial.sink) (g.K.Sink.taken l.sink) (printed l.initial.printer (flat_map (λ t. calls_of (tree_view t)) (take l.item-index l.items)));
      pen : l.printer ≡ reached l.initial.printer (flat_map (λ t. calls_of (tree_view t)) (take l.item-index l.items));
      rest : AllMayCome l.printer (flat_map (λ t. calls_of (tree_view t)) (drop l.item-index l.items));
      shallow : trees_depth (items_view (drop l.item-index l.items)) ≤ trees_depth (items_view l.items);
      later : g.K.Sink.faults l.initial.sink ≤ g.K.Sink.faults l.sink;
    }
