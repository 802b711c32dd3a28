use Rattle.std.proofs.Common.{◌≡◌, ◌++◌, map, drop}
use Rattle.std.specs.List.{flat_map, AllByRecursion}
use Rattle.jsonml_tree.specs.View.{attr_view}
use Rattle.record_parts.specs.Spelling.{attr_bytes}
use Rattle.record_parts.specs.Shapes.{FitsAttr}
use Rattle.xa_fields.specs.Laws.{Grows}
use Rattle.record_parts.proofs.put_values.put_each_attr.Given as goal

-- what is left makes the whole
abbrev pub invariant-loop-attr : goal.invariant-loop-attr
invariant-loop-attr l =
    record {
      fits : AllByRecursion FitsAttr (map attr_view (drop l.attr-index l.attrs));
      wrote : l.out.items ++ flat_map attr_bytes (map attr_view (drop l.attr-index l.attrs)) ≡ l.fn.out.items ++ flat_map attr_bytes (map attr_view l.attrs);
      grows : Grows l.fn.out.items l.out.items;
    }
