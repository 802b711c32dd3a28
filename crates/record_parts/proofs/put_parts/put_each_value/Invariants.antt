use Rattle.std.proofs.Common.{◌≡◌, ◌++◌, map, drop}
use Rattle.std.specs.List.{flat_map, AllByRecursion}
use Rattle.keyed_tree.specs.View.{key_view}
use Rattle.record_parts.specs.Spelling.{value_bytes}
use Rattle.record_parts.specs.Shapes.{FitsValue}
use Rattle.xa_fields.specs.Laws.{Grows}
use Rattle.record_parts.proofs.put_parts.put_each_value.Given as goal

-- what is left makes the whole
abbrev pub invariant-loop-value : goal.invariant-loop-value
invariant-loop-value l =
    record {
      fits : AllByRecursion FitsValue (map key_view (drop l.value-index l.values));
      wrote : l.out.items ++ flat_map value_bytes (map key_view (drop l.value-index l.values)) ≡ l.fn.out.items ++ flat_map value_bytes (map key_view l.values);
      grows : Grows l.fn.out.items l.out.items;
    }
