use Rattle.std.proofs.Common.{◌≡◌, length, map, take, vec_len, vec_capacity}
use Rattle.jsonml_tree.specs.LentView.{lent_tree_view}
use Rattle.jsonml_tree.specs.View.{tree_view}
use Rattle.jsonml_tree.proofs.lent.+lend.Given as goal

abbrev pub invariant-lend_items-loop-tree : goal.invariant-lend_items-loop-tree
invariant-lend_items-loop-tree l =
    (map lent_tree_view l.items.items ≡ map tree_view (take l.tree-index l.trees)) × (vec_len l.items ≡ l.tree-index) × (vec_capacity l.items ≡ length l.trees)
