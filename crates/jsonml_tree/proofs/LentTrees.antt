-- The view of each shape of a lent tree.
use Rattle.std.proofs.Common.{◌≡◌, map, rules, Global}
use Rattle.std.specs.Cow.{cow_str_bytes}
use Rattle.std.specs.declared.borrow.CowStr.{CowStr}
use Rattle.jsonml_tree.specs.Data.{text, element, content, trees_of}
use Rattle.jsonml_tree.specs.LentView.{only_text, lent_tree_view, lent_row_view}
use Rattle.jsonml_tree.specs.LentAttrs.{lent_attr_view}
use Rattle.jsonml_tree.specs.declared.lent.LentRow.{LentRow}
use Rattle.jsonml_tree.specs.declared.lent.LentTree.{Text, Leaf, Elem, the_lemmas}

pub lent_tree_view-Text : (s : CowStr Global) → lent_tree_view (Text s) ≡ text (cow_str_bytes s)
lent_tree_view-Text s = search (rules, the_lemmas)

pub lent_tree_view-Leaf : (t s : CowStr Global) → lent_tree_view (Leaf t s) ≡ element (cow_str_bytes t) (only_text (cow_str_bytes s))
lent_tree_view-Leaf t s = search (rules, the_lemmas)

pub lent_tree_view-Elem : (t : CowStr Global) (row : LentRow) → lent_tree_view (Elem t row) ≡ element (cow_str_bytes t) (lent_row_view row)
lent_tree_view-Elem t row = search (rules, the_lemmas)

pub lent_row_view-is : (row : LentRow) → lent_row_view row ≡ content (map lent_attr_view row.attrs.items) (trees_of (map lent_tree_view row.items.items))
lent_row_view-is row = search (rules, the_lemmas)

-- the view of each shape of a value
pub ruleset lent_trees = (lent_tree_view-Text, lent_tree_view-Leaf, lent_tree_view-Elem, lent_row_view-is)
