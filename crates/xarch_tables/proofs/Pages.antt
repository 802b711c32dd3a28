-- The text of a table's document, put row by row.
use Rattle.std.proofs.Common.{◌≡◌, ℕ, ◌<◌, ◌==◌, ◌&&◌, true, not, List, [], ◌∷◌, ◌++◌, length, map, get_or, String, Vec, Global, refl, sym, ap, ◌∙◌, subst, append_assoc, arith}
use Rattle.std.specs.List.{flat_map, list_all}
use Rattle.std.proofs.lemmas.Bool.{and_from, and_parts}
use Rattle.std.proofs.lemmas.Grind.{flat_map-append}
use Rattle.std.proofs.lemmas.List.{get_or-map, length-map}
use Rattle.std.proofs.lemmas.List.Folds.{list_all-append}
use Rattle.std.proofs.lemmas.List.Sums.{AllPass-from_list_all}
use Rattle.json.specs.Print.{quoted}
use Rattle.jsonml_print.specs.Printed.{document_text, items_text}
use Rattle.jsonml_tree.specs.Data.{PlainAttr, PlainTree, text, element, content, trees_of}
use Rattle.jsonml_tree.specs.Fits.{IsElement}
use Rattle.jsonml_tree.specs.View.{tree_view}
use Rattle.jsonml_tree.specs.declared.tree.Tree.{Tree}
use Rattle.jsonml_tree.proofs.Trees.{trees_of-injective}
use Rattle.csv_tables.specs.Data.{PlainTable}
use Rattle.csv_tables.specs.Documents.{row_tree, table_tree}
use Rattle.csv_tables.specs.Records.{IsRegular, repeats}
use Rattle.csv_tables.specs.View.{rows_view}
use Rattle.key_spec.specs.View.{names_view}
use Rattle.xarch_tables.specs.Rows.{item_text, row_text}

-- ---- a part

-- the items of a table's document are its rows
pub items-are : (table : PlainTable) (tag t : List ℕ) (xs : List PlainAttr) (items : List PlainTree) → element t (content xs (trees_of items)) ≡ table_tree table tag → items ≡ map (row_tree table.heading) table.rows
items-are table tag t xs items e = let same : trees_of items ≡ trees_of (map (row_tree table.heading) table.rows) = cc in trees_of-injective items _ same

pub elements : (items : List Tree) (heading : List (List ℕ)) (rows : List (List (List ℕ))) → map tree_view items ≡ map (row_tree heading) rows → (k : ℕ) (d : Tree) → k < length items → IsElement (tree_view (get_or items k d))
elements items heading rows e k d here =
    let many : length items ≡ length rows = sym (length-map items tree_view) ∙ ap length e ∙ length-map rows (row_tree heading) in
    let other : k < length rows = omega (arith, many, here) in
    let is : tree_view (get_or items k d) ≡ row_tree heading (get_or rows k []) =
    sym (get_or-map tree_view items k d (text []) here) ∙ ap (λ ts. get_or ts k (text [])) e ∙ get_or-map (row_tree heading) rows k [] (text []) other in
    subst IsElement (sym is) refl

texts-of : {X Y : Type 0} (f : Y → List ℕ) (g : X → Y) (xs : List X) → flat_map (λ x. f (g x)) xs ≡ flat_map f (map g xs)
texts-of f g [] = refl
texts-of f g (x ∷ xs) = ap (λ l. f (g x) ++ l) (texts-of f g xs)

pub same-texts : (items : List Tree) (heading : List (List ℕ)) (rows : List (List (List ℕ))) → map tree_view items ≡ map (row_tree heading) rows
    → flat_map (λ t. item_text (tree_view t)) items ≡ flat_map (row_text heading) rows
same-texts items heading rows e = texts-of item_text tree_view items ∙ ap (flat_map item_text) e ∙ sym (texts-of item_text (row_tree heading) rows)

-- ---- regular tables

-- a table of these rows has such a heading, and a row more is as long as it
pub regular-none : (heading : List (List ℕ)) (rows : List (List (List ℕ))) → IsRegular (record { heading = heading; rows = rows }) → IsRegular (record { heading = heading; rows = [] })
regular-none heading rows h = and_from (not (repeats [] heading)) true (and_parts (not (repeats [] heading)) _ h).0 refl

pub regular-row : (heading : List (List ℕ)) (rows : List (List (List ℕ))) (i : ℕ) (row : List (List ℕ)) → IsRegular (record { heading = heading; rows = rows }) → i < length rows → row ≡ get_or rows i row
    → (length row == length heading) ≡ true
regular-row heading rows i row h here is =
    let all = (and_parts (not (repeats [] heading)) _ h).1 in
    ap (λ (r : List (List ℕ)). length r == length heading) is ∙ AllPass-from_list_all (λ (r : List (List ℕ)). length r == length heading) rows all i row here

pub regular-more : (heading : List (List ℕ)) (rows : List (List (List ℕ))) (row : List (List ℕ)) → IsRegular (record { heading = heading; rows = rows }) → (length row == length heading) ≡ true
    → IsRegular (record { heading = heading; rows = rows ++ row ∷ [] })
regular-more heading rows row h fits =
    let is_even = λ (r : List (List ℕ)). length r == length heading in
    let parts = and_parts (not (repeats [] heading)) _ h in
    and_from (not (repeats [] heading)) _ parts.0 (list_all-append is_even rows (row ∷ []) ∙ and_from (list_all is_even rows) _ parts.1 (and_from (is_even row) true fits refl))

-- each row of a regular table is as long as its heading
pub row-fits : (heading : List (List ℕ)) (rows : List (Vec (String Global) Global)) (i : ℕ) (row : Vec (String Global) Global) → IsRegular (record { heading = heading; rows = rows_view rows }) → i < length rows → row ≡ get_or rows i row
    → (length (names_view row.items) == length heading) ≡ true
row-fits heading rows i row h here is =
    let view = λ (r : Vec (String Global) Global). names_view r.items in
    let many = length-map rows view in
    regular-row heading (rows_view rows) i (view row) h (omega (arith, many, here)) (ap view is ∙ sym (get_or-map view rows i row (view row) here))

pub rows-more : (rows : List (Vec (String Global) Global)) (row : Vec (String Global) Global) → rows_view (rows ++ row ∷ []) ≡ rows_view rows ++ names_view row.items ∷ []
rows-more [] row = refl
rows-more (r ∷ rows) row = ap (λ (rs : List (List (List ℕ))). names_view r.items ∷ rs) (rows-more rows row)

-- ---- texts

-- a row more is yet to be put
pub text-more : (heading : List (List ℕ)) (put old : List ℕ) (part done : List (List (List ℕ))) (row : List (List ℕ)) → put ++ flat_map (row_text heading) part ≡ old ++ flat_map (row_text heading) done
    → put ++ flat_map (row_text heading) (part ++ row ∷ []) ≡ old ++ flat_map (row_text heading) (done ++ row ∷ [])
text-more heading put old part done row e =
    let f = row_text heading in
    ap (λ l. put ++ l) (flat_map-append f part (row ∷ [])) ∙ sym (append_assoc put (flat_map f part) _) ∙ ap (λ l. l ++ flat_map f (row ∷ [])) e ∙ append_assoc old (flat_map f done) _ ∙ ap (λ l. old ++ l) (sym (flat_map-append f done (row ∷ [])))

by_rows : (heading : List (List ℕ)) (rows : List (List (List ℕ))) → items_text (trees_of (map (row_tree heading) rows)) ≡ flat_map (row_text heading) rows
by_rows heading [] = refl
by_rows heading (row ∷ rows) = ap (λ l. row_text heading row ++ l) (by_rows heading rows)

-- the whole text: the beginning, the rows, the end
pub whole : (table : PlainTable) (tag a b c d : List ℕ) → a ≡ [] → b ≡ a ++ (91 ∷ quoted tag) → c ≡ b ++ flat_map (row_text table.heading) table.rows → d ≡ c ++ (93 ∷ 10 ∷ []) → d ≡ document_text (table_tree table tag)
whole table tag a b c d p q r s =
    let rows = flat_map (row_text table.heading) table.rows in
    let begun : b ≡ 91 ∷ quoted tag = q ∙ ap (λ l. l ++ (91 ∷ quoted tag)) p in
    s ∙ ap (λ l. l ++ (93 ∷ 10 ∷ [])) (r ∙ ap (λ l. l ++ rows) begun)
    ∙ append_assoc (91 ∷ quoted tag) rows (93 ∷ 10 ∷ [])
    ∙ sym (ap (λ (l : List ℕ). 91 ∷ l) (append_assoc (quoted tag) (items_text (trees_of (map (row_tree table.heading) table.rows)) ++ 93 ∷ []) (10 ∷ [])
    ∙ ap (λ l. quoted tag ++ l) (append_assoc (items_text (trees_of (map (row_tree table.heading) table.rows))) (93 ∷ []) (10 ∷ []) ∙ ap (λ l. l ++ (93 ∷ 10 ∷ [])) (by_rows table.heading table.rows))))
