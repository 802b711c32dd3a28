use Rattle.std.proofs.Common.{◌≡◌, map, drop}
use Rattle.jsonml_tree.specs.LentAttrs.{lent_attr_view}
use Rattle.jsonml_tree.specs.WellFormed.{ascends, is_ascending}
use Rattle.jsonml_tree.proofs.lent_attr.do_names_ascend.Given as goal

-- what is left decides, above the last name
abbrev pub invariant-loop-attr : goal.invariant-loop-attr
invariant-loop-attr l = is_ascending (map lent_attr_view l.attrs) ≡ ascends (lent_attr_view l.last).name (map lent_attr_view (drop l.attr-index l.rest))
