use Rattle.std.proofs.Common.{◌≡◌, ◌++◌, drop}
use Rattle.jsonml_tree.specs.LentView.{lent_items_view}
use Rattle.record_parts.specs.Checks.{items_fit}
use Rattle.record_parts.specs.Spelling.{items_bytes}
use Rattle.record_parts.proofs.put_lent.+put.Given as goal

-- what is left decides, and makes the whole
abbrev pub invariant-put_items-loop-item : goal.invariant-put_items-loop-item
invariant-put_items-loop-item l =
    record {
      fits : items_fit l.depth (lent_items_view l.items) ≡ items_fit l.depth (lent_items_view (drop l.item-index l.items));
      wrote : l.out.items ++ items_bytes (lent_items_view (drop l.item-index l.items)) ≡ l.fn.out.items ++ items_bytes (lent_items_view l.items);
    }
