-- The document of a table is made of texts.
use Rattle.std.proofs.Common.{◌≡◌, ℕ, true, List, [], ◌∷◌, map, IsUtf8}
use Rattle.std.proofs.lemmas.Bool.{and_parts}
use Rattle.std.proofs.lemmas.Str.{IsUtf8-from_is_utf8}
use Rattle.std.specs.List.{list_all, AllByRecursion}
use Rattle.std.specs.Str.{is_utf8}
use Rattle.jsonml_tree.specs.Data.{PlainAttr, trees_of}
use Rattle.jsonml_text.specs.Texts.{IsScalarText, AreAttrTexts, AreTexts, AreItemTexts}
use Rattle.csv_tables.specs.Data.{PlainTable}
use Rattle.csv_tables.specs.Documents.{cells, row_attrs, row_tree, table_tree}
use Rattle.csv_tables.specs.Records.{IsRegular}
use Rattle.csv_tables.proofs.DocumentLemmas.{all-put_all}
use Rattle.csv_tables.proofs.FaultLemmas.{IsGood, all-text, heading-text, regular}
use Rattle.csv_tables.proofs.KeyLemmas.{row_utf8}

abbrev IsAttrText : PlainAttr → Type 0
IsAttrText a = IsUtf8 a.name × IsScalarText a.value

cells-text : (names fields : List (List ℕ)) → list_all is_utf8 names ≡ true → list_all is_utf8 fields ≡ true → AllByRecursion IsAttrText (cells names fields)
cells-text [] fields e f = tt
cells-text (name ∷ names) [] e f = tt
cells-text (name ∷ names) (field ∷ fields) e f =
    let p = and_parts (is_utf8 name) (list_all is_utf8 names) e in
    let q = and_parts (is_utf8 field) (list_all is_utf8 fields) f in
    ((IsUtf8-from_is_utf8 name p.0, IsUtf8-from_is_utf8 field q.0), cells-text names fields p.1 q.1)

attrs-text : (xs : List PlainAttr) → AllByRecursion IsAttrText xs → AreAttrTexts xs
attrs-text [] h = tt
attrs-text (x ∷ xs) h = (h.0.0, h.0.1, attrs-text xs h.1)

rows-text : (names : List (List ℕ)) (rows : List (List (List ℕ))) → list_all is_utf8 names ≡ true → AllByRecursion (λ fields. list_all is_utf8 fields ≡ true) rows → AreItemTexts (trees_of (map (row_tree names) rows))
rows-text names [] e h = tt
rows-text names (fields ∷ rows) e h =
    ((row_utf8, (attrs-text (row_attrs names fields) (all-put_all IsAttrText [] (cells names fields) tt (cells-text names fields e h.0)), tt)), rows-text names rows e h.1)

pub texts : (table : PlainTable) (tag : List ℕ) → IsGood table → IsUtf8 tag → AreTexts (table_tree table tag)
texts table tag good utf8 = (utf8, (tt, rows-text table.heading table.rows (heading-text table.heading good.head) (all-text _ 2 table.rows good.rows)))

pub good-regular : (table : PlainTable) → IsGood table → IsRegular table
good-regular table good = regular table.heading table.rows good.head good.rows
