use Rattle.std.proofs.Common.{◌≡◌, ◌++◌, drop}
use Rattle.jsonml_tree.specs.View.{items_view}
use Rattle.record_parts.specs.Spelling.{items_bytes}
use Rattle.record_parts.specs.Shapes.{FitItems}
use Rattle.xa_fields.specs.Laws.{Grows}
use Rattle.record_parts.proofs.put_values.+put.Given as goal

-- what is left makes the whole
abbrev pub invariant-put_items-loop-item : goal.invariant-put_items-loop-item
invariant-put_items-loop-item l =
    record {
      fits : FitItems (items_view (drop l.item-index l.items));
      wrote : l.out.items ++ items_bytes (items_view (drop l.item-index l.items)) ≡ l.fn.out.items ++ items_bytes (items_view l.items);
      grows : Grows l.fn.out.items l.out.items;
    }
