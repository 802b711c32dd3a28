-- Rows whose attributes and items are known.
use Rattle.std.proofs.Common.{◌≡◌, ◌∙◌, List, map, ap, sym}
use Rattle.jsonml_tree.specs.Data.{PlainAttr, PlainTrees, content, list_of, trees_of}
use Rattle.jsonml_tree.specs.LentAttrs.{lent_attr_view}
use Rattle.jsonml_tree.specs.LentView.{lent_tree_view, lent_row_view}
use Rattle.jsonml_tree.specs.declared.lent.LentRow.{LentRow}
use Rattle.jsonml_tree.proofs.LentTrees.{lent_row_view-is}
use Rattle.jsonml_tree.proofs.Trees.{trees_of-list_of}

pub row_of : (row : LentRow) (xs : List PlainAttr) (ts : PlainTrees) → xs ≡ map lent_attr_view row.attrs.items → list_of ts ≡ map lent_tree_view row.items.items → lent_row_view row ≡ content xs ts
row_of row xs ts e f =
    let items : trees_of (map lent_tree_view row.items.items) ≡ ts = ap trees_of (sym f) ∙ trees_of-list_of ts in
    lent_row_view-is row ∙ (λ i. content (sym e i) (items i))
