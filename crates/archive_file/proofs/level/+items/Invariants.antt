use Rattle.std.proofs.Common.{◌≡◌, nat_le, drop}
use Rattle.jsonml_tree.specs.Data.{trees_depth}
use Rattle.jsonml_tree.specs.View.{items_view}
use Rattle.archive_file.proofs.level.+items.Given as goal

-- what is left decides
abbrev pub invariant-are_items_shallow-loop-item : goal.invariant-are_items_shallow-loop-item
invariant-are_items_shallow-loop-item l = nat_le (trees_depth (items_view l.items)) l.left ≡ nat_le (trees_depth (items_view (drop l.item-index l.items))) l.left
