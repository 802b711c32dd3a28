use Rattle.std.proofs.Common.{◌≡◌, length, map, take, vec_len, vec_capacity}
use Rattle.jsonml_tree.specs.LentAttrs.{lent_attr_view}
use Rattle.jsonml_tree.specs.View.{attr_view}
use Rattle.jsonml_tree.proofs.lent_attr.lend_attrs.Given as goal

abbrev pub invariant-loop-attr : goal.invariant-loop-attr
invariant-loop-attr l =
    (map lent_attr_view l.lent.items ≡ map attr_view (take l.attr-index l.attrs)) × (vec_len l.lent ≡ l.attr-index) × (vec_capacity l.lent ≡ length l.attrs)
