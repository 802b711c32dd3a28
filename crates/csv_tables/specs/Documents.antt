-- The document of a table.
use Rattle.std.specs.Prelude.{ℕ, List, [], ◌∷◌, map, fold, codes}
use Rattle.std.specs.BTreeSet.{replace_key}
use Rattle.std.specs.declared.cmp.Ordering.{Ordering}
use Rattle.jsonml_tree.specs.Data.{PlainAttr, string, PlainTree, element, content, no_trees, trees_of}
use Rattle.jsonml_tree.specs.Order.{text_cmp}
use Rattle.csv_tables.specs.Data.{PlainTable}

-- an attribute for each column: the heading's field is its name, the row's field its value
abbrev pub cells : List (List ℕ) → List (List ℕ) → List PlainAttr
cells [] fields = []
cells (name ∷ names) [] = []
cells (name ∷ names) (field ∷ fields) = record { name = name; value = string field } ∷ cells names fields

-- attributes by their names
abbrev pub name_cmp : PlainAttr → PlainAttr → Ordering
name_cmp a b = text_cmp a.name b.name

-- these, ascending by their names
abbrev pub by_name : List PlainAttr → List PlainAttr
by_name xs = fold (replace_key name_cmp) [] xs

-- the attributes of a row
abbrev pub row_attrs : List (List ℕ) → List (List ℕ) → List PlainAttr
row_attrs heading fields = by_name (cells heading fields)

-- a row
abbrev pub row_tree : List (List ℕ) → List (List ℕ) → PlainTree
row_tree heading fields = element (codes "row") (content (row_attrs heading fields) no_trees)

-- the element of this tag whose items are the rows, in order
abbrev pub table_tree : PlainTable → List ℕ → PlainTree
table_tree table tag = element tag (content [] (trees_of (map (row_tree table.heading) table.rows)))
