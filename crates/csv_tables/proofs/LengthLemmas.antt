-- How long the text of a table's document is.
use Rattle.std.proofs.Common.{◌≡◌, ℕ, ◌+◌, ◌*◌, ◌<◌, ◌==◌, true, false, List, [], ◌∷◌, ◌++◌, map, fold, length, codes, refl, ap, sym, ◌∙◌, arith, bytes_eq}
use Rattle.std.proofs.lemmas.Bool.{true≢false, or_parts, or_from, and_parts, eqb-true, not-true}
use Rattle.std.proofs.lemmas.Grind.{flat_map-append}
use Rattle.std.proofs.lemmas.List.{length-append, append-nil}
use Rattle.std.specs.BTreeSet.{replace_key}
use Rattle.std.specs.List.{list_any, list_all, AllByRecursion, join_with_byte}
use Rattle.std.specs.Ordering.{match_ordering}
use Rattle.std.specs.declared.cmp.Ordering.TheVariants.{Less, Equal, Greater}
use Rattle.json.specs.Print.{quoted, escape, escape_byte}
use Rattle.jsonml_print.specs.Printed.{attr_text, attrs_text, tree_text, items_text, document_text}
use Rattle.jsonml_tree.specs.Data.{PlainAttr, string, trees_of}
use Rattle.key_spec.proofs.SortLemmas.{by_order}
use Rattle.csv_tables.specs.Data.{PlainTable}
use Rattle.csv_tables.specs.Documents.{cells, name_cmp, row_attrs, row_tree, table_tree}
use Rattle.csv_tables.specs.Lengths.{at_most, quoted_size, sizes, frame, rows_size}
use Rattle.csv_tables.specs.Records.{has_field, repeats, IsRegular}
use Rattle.csv_tables.proofs.CellLemmas.{Different, all-different, named, named-test}
use Rattle.csv_tables.proofs.PutLemmas.{any-put}
use Rattle.csv_tables.proofs.TextLemmas.{same-bytes, cmp-same}

-- ---- sums up to the greatest number

pub at_most-sum : (a b : ℕ) → at_most (at_most a + b) ≡ at_most (a + b)
at_most-sum a b = omega arith

pub at_most-both : (a b : ℕ) → at_most (at_most a + at_most b) ≡ at_most (a + b)
at_most-both a b = omega arith

-- ---- texts

pub sizes-more : (xs : List (List ℕ)) (x : List ℕ) → sizes (xs ++ x ∷ []) ≡ sizes xs + quoted_size x
sizes-more [] x = omega arith
sizes-more (y ∷ xs) x = let more = sizes-more xs x in omega (arith, more)

pub rows-more : (n : ℕ) (rows : List (List (List ℕ))) (fields : List (List ℕ)) → rows_size n (rows ++ fields ∷ []) ≡ rows_size n rows + (n + sizes fields)
rows-more n [] fields = omega arith
rows-more n (r ∷ rows) fields = let more = rows-more n rows fields in omega (arith, more)

pub escape-more : (xs : List ℕ) (b : ℕ) → length (escape (xs ++ b ∷ [])) ≡ length (escape xs) + length (escape_byte b)
escape-more xs b =
    ap length (flat_map-append escape_byte xs (b ∷ []))
    ∙ length-append (escape xs) (escape_byte b ++ [])
    ∙ ap (λ (ys : List ℕ). length (escape xs) + length ys) (append-nil (escape_byte b))

pub quoted-length : (s : List ℕ) → quoted_size s ≡ 2 + length (escape s)
quoted-length s = let more = length-append (escape s) (34 ∷ []) in omega (arith, more)

pub frame-some : (names : List (List ℕ)) → 0 < length names → frame names ≡ sizes names + (10 + 2 * length names)
frame-some [] h = absurd (omega arith)
frame-some (name ∷ names) h = refl

-- ---- attributes

abbrev weights : List PlainAttr → ℕ
weights [] = 0
weights (a ∷ xs) = (length (attr_text a) + 1) + weights xs

abbrev attr_size : List PlainAttr → ℕ
attr_size [] = 0
attr_size (a ∷ xs) = 2 + weights (a ∷ xs)

join-length : (a : PlainAttr) (xs : List PlainAttr) → length (join_with_byte 44 (map attr_text (a ∷ xs))) + 1 ≡ weights (a ∷ xs)
join-length a [] = omega arith
join-length a (b ∷ xs) =
    let more = join-length b xs in
    let both = length-append (attr_text a) (44 ∷ join_with_byte 44 (map attr_text (b ∷ xs))) in
    omega (arith, more, both)

attrs-length : (xs : List PlainAttr) → length (attrs_text xs) ≡ attr_size xs
attrs-length [] = refl
attrs-length (a ∷ xs) =
    let more = join-length a xs in
    let both = length-append (join_with_byte 44 (map attr_text (a ∷ xs))) (125 ∷ []) in
    omega (arith, more, both)

size-by : (ys xs : List PlainAttr) → weights ys ≡ weights xs → attr_size ys ≡ attr_size xs
size-by [] [] e = refl
size-by [] (x ∷ xs) e = absurd (omega (arith, e))
size-by (y ∷ ys) [] e = absurd (omega (arith, e))
size-by (y ∷ ys) (x ∷ xs) e = omega (arith, e)

weights-put : (xs : List PlainAttr) (c : PlainAttr) → list_any (named c.name) xs ≡ false → weights (replace_key name_cmp xs c) ≡ weights (c ∷ xs)
weights-put [] c e = refl
weights-put (x ∷ xs) c e = by_order (name_cmp c x) at_less at_equal (at_greater (weights-put xs c p.1))
  where
    p : (bytes_eq x.name c.name ≡ false) × (list_any (named c.name) xs ≡ false)
    p = or_parts (bytes_eq x.name c.name) (list_any (named c.name) xs) e

    at_less : name_cmp c x ≡ Less → weights (match_ordering (name_cmp c x) (c ∷ x ∷ xs) (c ∷ xs) (x ∷ replace_key name_cmp xs c)) ≡ weights (c ∷ x ∷ xs)
    at_less f = rw f refl

    at_equal : name_cmp c x ≡ Equal → weights (match_ordering (name_cmp c x) (c ∷ x ∷ xs) (c ∷ xs) (x ∷ replace_key name_cmp xs c)) ≡ weights (c ∷ x ∷ xs)
    at_equal f = absurd (true≢false (sym (same-bytes x.name c.name (sym (cmp-same c.name x.name f))) ∙ p.0))

    at_greater : weights (replace_key name_cmp xs c) ≡ weights (c ∷ xs) → name_cmp c x ≡ Greater
        → weights (match_ordering (name_cmp c x) (c ∷ x ∷ xs) (c ∷ xs) (x ∷ replace_key name_cmp xs c)) ≡ weights (c ∷ x ∷ xs)
    at_greater more f = rw f (omega (arith, more))

-- names of which none is that of an attribute
abbrev AreNew : List PlainAttr → List (List ℕ) → Type 0
AreNew old names = AllByRecursion (λ n. list_any (named n) old ≡ false) names

new-more : (old : List PlainAttr) (c : PlainAttr) (names : List (List ℕ)) → AreNew old names → has_field names c.name ≡ false → AreNew (replace_key name_cmp old c) names
new-more old c [] h e = tt
new-more old c (n ∷ names) h e =
    let p = or_parts (bytes_eq c.name n) (has_field names c.name) e in
    (any-put name_cmp (named n) (named-test n) old c ∙ or_from (bytes_eq c.name n) (list_any (named n) old) p.0 h.0, new-more old c names h.1 p.1)

weights-put_all : (names fields : List (List ℕ)) (old : List PlainAttr) → Different names → AreNew old names → weights (fold (replace_key name_cmp) old (cells names fields)) ≡ weights old + weights (cells names fields)
weights-put_all [] fields old d h = omega arith
weights-put_all (n ∷ names) [] old d h = omega arith
weights-put_all (n ∷ names) (f ∷ fields) old d h =
    let c : PlainAttr = record { name = n; value = string f } in
    let more = weights-put_all names fields (replace_key name_cmp old c) d.1 (new-more old c names h.1 d.0) in
    let one = weights-put old c h.0 in
    omega (arith, more, one)

all-new : (names : List (List ℕ)) → AreNew [] names
all-new [] = tt
all-new (n ∷ names) = (refl, all-new names)

cells-weight : (names fields : List (List ℕ)) → length fields ≡ length names → weights (cells names fields) ≡ sizes names + sizes fields + 2 * length names
cells-weight [] [] e = omega arith
cells-weight [] (f ∷ fields) e = absurd (omega (arith, e))
cells-weight (n ∷ names) [] e = absurd (omega (arith, e))
cells-weight (n ∷ names) (f ∷ fields) e =
    let more = cells-weight names fields (omega (arith, e)) in
    let this = length-append (quoted n) (58 ∷ quoted f) in
    omega (arith, more, this)

row-size : (names fields : List (List ℕ)) → Different names → length fields ≡ length names → attr_size (row_attrs names fields) + 8 ≡ frame names + sizes fields
row-size [] [] d e = refl
row-size [] (f ∷ fields) d e = absurd (omega (arith, e))
row-size (n ∷ names) [] d e = absurd (omega (arith, e))
row-size (n ∷ names) (f ∷ fields) d e =
    let all = weights-put_all (n ∷ names) (f ∷ fields) [] d (all-new (n ∷ names)) in
    let same = size-by (row_attrs (n ∷ names) (f ∷ fields)) (cells (n ∷ names) (f ∷ fields)) (omega (arith, all)) in
    let weight = cells-weight (n ∷ names) (f ∷ fields) e in
    omega (arith, same, weight)

-- ---- rows and the whole

row-tag : length (quoted (codes "row")) ≡ 5
unfolding escape_byte
row-tag = refl

row-length : (names fields : List (List ℕ)) → Different names → length fields ≡ length names → length (tree_text (row_tree names fields)) + 1 ≡ frame names + sizes fields
row-length names fields d e =
    let attrs = attrs_text (row_attrs names fields) in
    let a = length-append (quoted (codes "row")) ((attrs ++ []) ++ 93 ∷ []) in
    let b = length-append (attrs ++ []) (93 ∷ []) in
    let c = ap length (append-nil attrs) in
    let d1 = attrs-length (row_attrs names fields) in
    let e1 = row-size names fields d e in
    let t = row-tag in
    omega (arith, a, b, c, d1, e1, t)

items-length : (names : List (List ℕ)) (rows : List (List (List ℕ))) → Different names → list_all (λ (row : List (List ℕ)). length row == length names) rows ≡ true
    → length (items_text (trees_of (map (row_tree names) rows))) ≡ rows_size (frame names) rows
items-length names [] d e = refl
items-length names (fields ∷ rows) d e =
    let p = and_parts (length fields == length names) _ e in
    let one = row-length names fields d (eqb-true (length fields) (length names) p.0) in
    let more = items-length names rows d p.1 in
    let both = length-append (tree_text (row_tree names fields)) (items_text (trees_of (map (row_tree names) rows))) in
    omega (arith, one, more, both)

pub document-length : (table : PlainTable) (tag : List ℕ) → IsRegular table → length (document_text (table_tree table tag)) ≡ (quoted_size tag + 3) + rows_size (frame table.heading) table.rows
document-length table tag regular =
    let p = and_parts _ _ regular in
    let d = all-different table.heading (not-true (repeats [] table.heading) p.0) in
    let items = items_text (trees_of (map (row_tree table.heading) table.rows)) in
    let rows = items-length table.heading table.rows d p.1 in
    let a = length-append (quoted tag) (items ++ 93 ∷ []) in
    let b = length-append items (93 ∷ []) in
    let c = length-append (91 ∷ (quoted tag ++ (items ++ 93 ∷ []))) (10 ∷ []) in
    omega (arith, rows, a, b, c)
