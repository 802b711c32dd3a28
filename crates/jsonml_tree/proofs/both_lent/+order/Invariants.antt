use Rattle.std.proofs.Common.{◌≡◌, map, drop}
use Rattle.std.specs.Cmp.Lexicographic.{slice_cmp}
use Rattle.jsonml_tree.specs.LentView.{lent_tree_view}
use Rattle.jsonml_tree.specs.Order.{tree_cmp}
use Rattle.jsonml_tree.proofs.both_lent.+order.Given as goal

-- what is left decides
abbrev pub invariant-order_items-loop-a : goal.invariant-order_items-loop-a
invariant-order_items-loop-a l =
    slice_cmp tree_cmp (map lent_tree_view l.ours) (map lent_tree_view l.theirs)
    ≡ slice_cmp tree_cmp (map lent_tree_view (drop l.a-index l.ours)) (map lent_tree_view l.others.rest.now)
