use Rattle.std.proofs.Common.{◌≡◌, length, map, take, vec_len, vec_capacity}
use Rattle.jsonml_tree.specs.LentView.{lent_tree_view}
use Rattle.jsonml_tree.specs.View.{tree_view}
use Rattle.jsonml_tree.proofs.lent.+own.Given as goal

abbrev pub invariant-own_items-loop-item : goal.invariant-own_items-loop-item
invariant-own_items-loop-item l =
    (map tree_view l.trees.items ≡ map lent_tree_view (take l.item-index l.items)) × (vec_len l.trees ≡ l.item-index) × (vec_capacity l.trees ≡ length l.items)
