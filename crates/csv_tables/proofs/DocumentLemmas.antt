-- What the document of a table is.
use Rattle.std.proofs.Common.{◌≡◌, ℕ, ◌≤◌, true, ◌&&◌, List, [], ◌∷◌, map, fold, length, refl, ap, ap₂, ◌∙◌, arith}
use Rattle.std.proofs.lemmas.Bool.{and_parts, and_from, le-leb}
use Rattle.std.proofs.lemmas.Cmp.{nat_list_cmp_total, on_total}
use Rattle.std.proofs.lemmas.List.{length-map}
use Rattle.std.specs.BTreeSet.{replace_key}
use Rattle.std.specs.Cmp.{IsTotalOrder}
use Rattle.std.specs.List.{AllByRecursion}
use Rattle.std.specs.List.Sorted.{IsStrictlySortedBy}
use Rattle.std.specs.Prelude.{nat_le}
use Rattle.std.specs.declared.cmp.Ordering.TheVariants.{Less}
use Rattle.jsonml_tree.specs.Data.{PlainAttr, PlainTree, element, content, trees_of, list_of, tree_depth, trees_depth}
use Rattle.jsonml_tree.specs.Fits.{ItemsFit, all_items_fit}
use Rattle.jsonml_tree.specs.WellFormed.{IsWellFormed, is_ascending, ascends, are_in_range, is_in_range, are_well_formed, is_well_formed}
use Rattle.jsonml_tree.proofs.Trees.{list_of-trees_of}
use Rattle.key_spec.proofs.SortLemmas.{all-put, sorted-put_all, sorted-nil}
use Rattle.csv_tables.specs.Columns.{PlainColumn, columns_of}
use Rattle.csv_tables.specs.Data.{PlainTable}
use Rattle.csv_tables.specs.Documents.{cells, name_cmp, by_name, row_attrs, row_tree, table_tree}
use Rattle.csv_tables.specs.Records.{IsRegular}
use Rattle.csv_tables.proofs.RowLemmas.{row_by, rows-by}

-- the document that is made of rows
pub made : (table : PlainTable) (tag : List ℕ) (columns : List PlainColumn) (attrs : List PlainAttr) (trees : List PlainTree) → IsRegular table → columns ≡ columns_of table.heading → attrs ≡ []
    → trees ≡ map (row_by columns) table.rows → element tag (content attrs (trees_of trees)) ≡ table_tree table tag
made table tag columns attrs trees regular are none rows =
    let same : trees ≡ map (row_tree table.heading) table.rows =
    rows ∙ ap (λ (cs : List PlainColumn). map (row_by cs) table.rows) are ∙ rows-by table.heading table.rows (and_parts _ _ regular).1 in
    ap₂ (λ (xs : List PlainAttr) (ts : List PlainTree). element tag (content xs (trees_of ts))) none same

-- ---- attributes

pub name_cmp_total : IsTotalOrder name_cmp
name_cmp_total = on_total (λ (a : PlainAttr). a.name) nat_list_cmp_total

pub sorted-attrs : (xs : List PlainAttr) → IsStrictlySortedBy name_cmp (by_name xs)
sorted-attrs xs = sorted-put_all name_cmp_total [] xs (sorted-nil name_cmp)

ascends-sorted : (a : PlainAttr) (xs : List PlainAttr) → AllByRecursion (λ y. name_cmp a y ≡ Less) xs → IsStrictlySortedBy name_cmp xs → ascends a.name xs ≡ true
unfolding IsStrictlySortedBy
ascends-sorted a [] all s = refl
ascends-sorted a (b ∷ xs) all s = rw all.0 (ascends-sorted b xs s.0 s.1)

ascending-sorted : (xs : List PlainAttr) → IsStrictlySortedBy name_cmp xs → is_ascending xs ≡ true
unfolding IsStrictlySortedBy
ascending-sorted [] s = refl
ascending-sorted (a ∷ xs) s = ascends-sorted a xs s.0 s.1

abbrev IsFine : PlainAttr → Type 0
IsFine a = is_in_range a.value ≡ true

-- what holds of each of some attributes holds of each when they are in order
pub all-put_all : (P : PlainAttr → Type 0) (old xs : List PlainAttr) → AllByRecursion P old → AllByRecursion P xs → AllByRecursion P (fold (replace_key name_cmp) old xs)
all-put_all P old [] o h = o
all-put_all P old (x ∷ xs) o h = all-put_all P (replace_key name_cmp old x) xs (all-put name_cmp_total P old x h.0 o) h.1

fine-cells : (names fields : List (List ℕ)) → AllByRecursion IsFine (cells names fields)
fine-cells [] fields = tt
fine-cells (name ∷ names) [] = tt
fine-cells (name ∷ names) (field ∷ fields) = (refl, fine-cells names fields)

fine-range : (xs : List PlainAttr) → AllByRecursion IsFine xs → are_in_range xs ≡ true
fine-range [] h = refl
fine-range (x ∷ xs) h = and_from (is_in_range x.value) (are_in_range xs) h.0 (fine-range xs h.1)

row-fine : (names fields : List (List ℕ)) → is_well_formed (row_tree names fields) ≡ true
row-fine names fields =
    let up = ascending-sorted (row_attrs names fields) (sorted-attrs (cells names fields)) in
    let range = fine-range (row_attrs names fields) (all-put_all IsFine [] (cells names fields) tt (fine-cells names fields)) in
    and_from (is_ascending (row_attrs names fields) && are_in_range (row_attrs names fields)) true (and_from (is_ascending (row_attrs names fields)) (are_in_range (row_attrs names fields)) up range) refl

rows-fine : (names : List (List ℕ)) (rows : List (List (List ℕ))) → are_well_formed (trees_of (map (row_tree names) rows)) ≡ true
rows-fine names [] = refl
rows-fine names (row ∷ rows) = and_from (is_well_formed (row_tree names row)) _ (row-fine names row) (rows-fine names rows)

pub well_formed : (table : PlainTable) (tag : List ℕ) → IsWellFormed (table_tree table tag)
well_formed table tag = rows-fine table.heading table.rows

-- ---- depth and items

rows-deep : (names : List (List ℕ)) (rows : List (List (List ℕ))) → trees_depth (trees_of (map (row_tree names) rows)) ≤ 1
rows-deep names [] = omega arith
rows-deep names (row ∷ rows) = let more = rows-deep names rows in omega (arith, more)

pub shallow : (table : PlainTable) (tag : List ℕ) → tree_depth (table_tree table tag) ≤ 2
shallow table tag = let rows = rows-deep table.heading table.rows in omega (arith, rows)

rows-fit : (names : List (List ℕ)) (rows : List (List (List ℕ))) → all_items_fit (trees_of (map (row_tree names) rows)) ≡ true
rows-fit names [] = refl
rows-fit names (row ∷ rows) = rows-fit names rows

pub items-fit : (table : PlainTable) (tag : List ℕ) → length table.rows ≤ 4294967295 → ItemsFit (table_tree table tag)
items-fit table tag few =
    let trees = map (row_tree table.heading) table.rows in
    let many : length (list_of (trees_of trees)) ≡ length table.rows = ap length (list_of-trees_of trees) ∙ length-map table.rows (row_tree table.heading) in
    and_from (nat_le (length (list_of (trees_of trees))) 4294967295) (all_items_fit (trees_of trees)) (le-leb (length (list_of (trees_of trees))) 4294967295 (omega (arith, many, few))) (rows-fit table.heading table.rows)
