use Rattle.std.proofs.Common.{◌≡◌, ◌+◌, drop, IsTrue}
use Rattle.jsonml_tree.specs.Fits.{all_items_fit}
use Rattle.jsonml_tree.specs.LentView.{lent_items_view}
use Rattle.key_spec.specs.ContextView.{context_path, context_rules}
use Rattle.key_rules.specs.Faults.{item_place, row_fault}
use Rattle.key_rules.proofs.walk.+walk.Given as goal

abbrev pub invariant-fault_below-loop-position : goal.invariant-fault_below-loop-position
invariant-fault_below-loop-position l =
    record {
      fault : row_fault (context_rules l.context) (context_path l.context) (item_place l.fn.place.items) 1 (lent_items_view l.items)
          ≡ row_fault (context_rules l.context) (context_path l.context) (item_place l.fn.place.items) (l.position + 1) (lent_items_view (drop l.position l.items));
      stays : l.place.items ≡ l.fn.place.items;
      fit : IsTrue (all_items_fit (lent_items_view (drop l.position l.items)));
    }
