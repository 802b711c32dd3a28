use Rattle.std.proofs.Common.{◌≡◌, ◌++◌, map, drop}
use Rattle.std.specs.List.{flat_map}
use Rattle.keyed_tree.specs.LentView.{lent_val_view}
use Rattle.record_parts.specs.Checks.{values_fit}
use Rattle.record_parts.specs.Spelling.{value_bytes}
use Rattle.record_parts.proofs.put_lent.put_lent_values.Given as goal

-- what is left decides, and makes the whole
abbrev pub invariant-loop-value : goal.invariant-loop-value
invariant-loop-value l =
    record {
      fits : values_fit (map lent_val_view l.values) ≡ values_fit (map lent_val_view (drop l.value-index l.values));
      wrote : l.out.items ++ flat_map value_bytes (map lent_val_view (drop l.value-index l.values)) ≡ l.fn.out.items ++ flat_map value_bytes (map lent_val_view l.values);
    }
