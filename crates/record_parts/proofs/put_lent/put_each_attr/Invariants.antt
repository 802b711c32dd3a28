use Rattle.std.proofs.Common.{◌≡◌, ◌++◌, map, drop}
use Rattle.std.specs.List.{flat_map}
use Rattle.jsonml_tree.specs.LentAttrs.{lent_attr_view}
use Rattle.record_parts.specs.Checks.{each_attr_fits}
use Rattle.record_parts.specs.Spelling.{attr_bytes}
use Rattle.record_parts.proofs.put_lent.put_each_attr.Given as goal

-- what is left decides, and makes the whole
abbrev pub invariant-loop-attr : goal.invariant-loop-attr
invariant-loop-attr l =
    record {
      fits : each_attr_fits (map lent_attr_view l.attrs) ≡ each_attr_fits (map lent_attr_view (drop l.attr-index l.attrs));
      wrote : l.out.items ++ flat_map attr_bytes (map lent_attr_view (drop l.attr-index l.attrs)) ≡ l.fn.out.items ++ flat_map attr_bytes (map lent_attr_view l.attrs);
    }
