-- The plain data that a lent tree stands for.
pub use Rattle.jsonml_tree.specs.Data.{only_text}
use Rattle.std.specs.Prelude.{List, map}
use Rattle.std.specs.Cow.{cow_str_bytes}
use Rattle.jsonml_tree.specs.Data.{PlainTree, text, element, PlainContent, content, PlainTrees, trees_of}
use Rattle.jsonml_tree.specs.LentAttrs.{lent_attr_view}
use Rattle.jsonml_tree.specs.declared.lent.LentContent.{LentContent}
use Rattle.jsonml_tree.specs.declared.lent.LentContent.TheVariants as lent
use Rattle.jsonml_tree.specs.declared.lent.LentRow.{LentRow, LentRow-F, fold-LentRow}
use Rattle.jsonml_tree.specs.declared.lent.LentTree.{LentTree, LentTree-F, fold-LentTree}

-- one level, with each value inside already seen as its data
abbrev pub lent_tree_step : LentTree-F PlainTree PlainContent → PlainTree
lent_tree_step (LentTree-F.Text s) = text (cow_str_bytes s)
lent_tree_step (LentTree-F.Leaf t s) = element (cow_str_bytes t) (only_text (cow_str_bytes s))
lent_tree_step (LentTree-F.Elem t row) = element (cow_str_bytes t) row

abbrev pub lent_row_step : LentRow-F PlainTree PlainContent → PlainContent
lent_row_step row = content (map lent_attr_view row.attrs.items) (trees_of row.items.items)

abbrev pub lent_tree_view : LentTree → PlainTree
lent_tree_view = fold-LentTree PlainTree PlainContent lent_tree_step lent_row_step

abbrev pub lent_row_view : LentRow → PlainContent
lent_row_view = fold-LentRow PlainTree PlainContent lent_tree_step lent_row_step

abbrev pub lent_content_view : LentContent → PlainContent
lent_content_view (lent.Text s) = only_text s.now
lent_content_view (lent.Row row) = lent_row_view row.now

abbrev pub lent_items_view : List LentTree → PlainTrees
lent_items_view ts = trees_of (map lent_tree_view ts)
