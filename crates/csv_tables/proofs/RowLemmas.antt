-- The attributes of a row, made of its columns in order.
use Rattle.std.proofs.Common.{◌≡◌, ℕ, ◌+◌, ◌<◌, ◌==◌, true, List, [], ◌∷◌, map, fold, length, drop, codes, refl, ap, ap₂, sym, ◌∙◌, arith}
use Rattle.std.proofs.lemmas.Bool.{and_parts, eqb-true}
use Rattle.std.proofs.lemmas.List.{drop_more}
use Rattle.std.specs.BTreeSet.{replace_key}
use Rattle.std.specs.List.{list_all}
use Rattle.std.specs.Ordering.{on}
use Rattle.std.specs.declared.cmp.Ordering.{Ordering}
use Rattle.jsonml_tree.specs.Data.{PlainAttr, PlainTree, element, content, no_trees}
use Rattle.key_spec.proofs.CloseLemmas.{replace_key-map}
use Rattle.csv_tables.specs.Columns.{PlainColumn, numbered, columns_of, cell_at}
use Rattle.csv_tables.specs.Documents.{cells, name_cmp, row_attrs, row_tree}

fold-map : {X Y : Type 0} (f : X → Y) (cmp : Y → Y → Ordering) (ys xs : List X) → map f (fold (replace_key (on f cmp)) ys xs) ≡ fold (replace_key cmp) (map f ys) (map f xs)
fold-map f cmp ys [] = refl
fold-map f cmp ys (x ∷ xs) = fold-map f cmp (replace_key (on f cmp) ys x) xs ∙ ap (λ zs. fold (replace_key cmp) zs (map f xs)) (replace_key-map f cmp ys x)

cells-from : (fields names : List (List ℕ)) (n : ℕ) → n + length names ≡ length fields → map (cell_at fields) (numbered n names) ≡ cells names (drop n fields)
cells-from fields [] n e = refl
cells-from fields (name ∷ names) n e =
    let here : n < length fields = omega (arith, e) in
    let more = cells-from fields names (n + 1) (omega (arith, e)) in
    let this = drop_more fields n [] here in
    ap (λ (xs : List PlainAttr). cell_at fields (record { name = name; at = n }) ∷ xs) more ∙ sym (ap (cells (name ∷ names)) this)

pub row-cells : (names fields : List (List ℕ)) → length fields ≡ length names → map (cell_at fields) (columns_of names) ≡ row_attrs names fields
row-cells names fields e =
    fold-map (cell_at fields) name_cmp [] (numbered 0 names)
    ∙ ap (fold (replace_key name_cmp) []) (cells-from fields names 0 (omega (arith, e)))

-- a row whose attributes go by columns in order
abbrev pub row_by : List PlainColumn → List (List ℕ) → PlainTree
row_by columns fields = element (codes "row") (content (map (cell_at fields) columns) no_trees)

pub rows-by : (names : List (List ℕ)) (rows : List (List (List ℕ))) → list_all (λ (row : List (List ℕ)). length row == length names) rows ≡ true
    → map (row_by (columns_of names)) rows ≡ map (row_tree names) rows
rows-by names [] e = refl
rows-by names (fields ∷ rows) e =
    let both = and_parts (length fields == length names) _ e in
    ap₂ (λ (x : PlainTree) (xs : List PlainTree). x ∷ xs)
    (ap (λ (xs : List PlainAttr). element (codes "row") (content xs no_trees)) (row-cells names fields (eqb-true (length fields) (length names) both.0)))
    (rows-by names rows both.1)
