use Rattle.std.proofs.Common.{◌≡◌, ◌++◌, take}
use Rattle.std.specs.List.{flat_map}
use Rattle.jsonml_tree.specs.View.{tree_view}
use Rattle.xarch_tables.specs.Rows.{item_text}
use Rattle.xarch_tables.proofs.page.put_items.Given as goal

-- the items so far
abbrev pub invariant-loop-item : goal.invariant-loop-item
invariant-loop-item l = l.page.bytes.items ≡ l.fn.page.bytes.items ++ flat_map (λ t. item_text (tree_view t)) (take l.item-index l.items)
