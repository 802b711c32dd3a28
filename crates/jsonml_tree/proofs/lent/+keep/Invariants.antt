use Rattle.std.proofs.Common.{◌≡◌, length, map, vec_len, vec_capacity}
use Rattle.jsonml_tree.specs.LentView.{lent_tree_view}
use Rattle.jsonml_tree.specs.View.{tree_view}
use Rattle.jsonml_tree.proofs.lent.+keep.Given as goal

abbrev pub invariant-kept_items-loop-tree : goal.invariant-kept_items-loop-tree
invariant-kept_items-loop-tree l =
    (map lent_tree_view l.items.items ≡ map tree_view l.yielded) × (vec_len l.items ≡ length l.yielded) × (vec_capacity l.items ≡ length l.fn.trees.items)
