use Rattle.std.proofs.Common.{◌≡◌, map, drop}
use Rattle.std.specs.Cmp.Lexicographic.{slice_cmp}
use Rattle.jsonml_tree.specs.LentAttrs.{lent_attr_view}
use Rattle.jsonml_tree.specs.Order.{attr_cmp}
use Rattle.jsonml_tree.proofs.both_lent.order_attrs.Given as goal

-- what is left decides
abbrev pub invariant-loop-a : goal.invariant-loop-a
invariant-loop-a l =
    slice_cmp attr_cmp (map lent_attr_view l.ours) (map lent_attr_view l.theirs)
    ≡ slice_cmp attr_cmp (map lent_attr_view (drop l.a-index l.ours)) (map lent_attr_view l.others.rest.now)
