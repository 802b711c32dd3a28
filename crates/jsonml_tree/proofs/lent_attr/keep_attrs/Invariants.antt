use Rattle.std.proofs.Common.{◌≡◌, length, map, vec_len, vec_capacity}
use Rattle.jsonml_tree.specs.LentAttrs.{lent_attr_view}
use Rattle.jsonml_tree.specs.View.{attr_view}
use Rattle.jsonml_tree.proofs.lent_attr.keep_attrs.Given as goal

abbrev pub invariant-loop-attr : goal.invariant-loop-attr
invariant-loop-attr l =
    (map lent_attr_view l.kept.items ≡ map attr_view l.yielded) × (vec_len l.kept ≡ length l.yielded) × (vec_capacity l.kept ≡ length l.fn.attrs.items)
