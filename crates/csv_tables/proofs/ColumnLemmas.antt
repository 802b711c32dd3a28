-- The columns of a heading, put in order one after the other.
use Rattle.std.proofs.Common.{◌≡◌, ℕ, ◌+◌, true, false, ◌||◌, List, [], ◌∷◌, ◌++◌, map, fold, length, is_some, find, refl, ap, ap₂, sym, ◌∙◌, arith}
use Rattle.std.proofs.lemmas.Map.Text.{is_eq-slice_cmp}
use Rattle.std.specs.BTreeSet.{replace_key}
use Rattle.std.specs.List.{list_any}
use Rattle.std.specs.Ordering.{on, ordering_reverse, is_eq}
use Rattle.std.specs.declared.cmp.Ordering.{Ordering}
use Rattle.std.specs.declared.cmp.Ordering.TheVariants.{Less, Equal, Greater}
use Rattle.std.specs.Str.{bytes_eq}
use Rattle.key_spec.proofs.CloseLemmas.{replace_key-map}
use Rattle.csv_tables.specs.Columns.{PlainColumn, column_view, column_cmp, column_cmp_total, numbered, columns_of}
use Rattle.csv_tables.specs.Records.{has_field, repeats}
use Rattle.csv_tables.specs.declared.column.Column.{Column}
use Rattle.csv_tables.proofs.PutLemmas.{IsTest, any-put_all, find-some, any-map}

-- ---- one column more

fold-append : {X Y : Type 0} (f : Y → X → Y) (y : Y) (xs : List X) (x : X) → fold f y (xs ++ x ∷ []) ≡ f (fold f y xs) x
fold-append f y [] x = refl
fold-append f y (z ∷ xs) x = fold-append f (f y z) xs x

numbered-append : (n : ℕ) (names : List (List ℕ)) (name : List ℕ) → numbered n (names ++ name ∷ []) ≡ numbered n names ++ record { name = name; at = n + length names } ∷ []
numbered-append n [] name = let e : n ≡ n + 0 = omega arith in ap (λ (k : ℕ). record { name = name; at = k } ∷ []) e
numbered-append n (x ∷ names) name =
    let e : (n + 1) + length names ≡ n + length (x ∷ names) = omega arith in
    ap (λ (cs : List PlainColumn). record { name = x; at = n } ∷ cs) (numbered-append (n + 1) names name ∙ ap (λ (k : ℕ). numbered (n + 1) names ++ record { name = name; at = k } ∷ []) e)

pub columns-more : (names : List (List ℕ)) (name : List ℕ) → columns_of (names ++ name ∷ []) ≡ replace_key column_cmp (columns_of names) (record { name = name; at = length names })
columns-more names name =
    ap (fold (replace_key column_cmp) []) (numbered-append 0 names name)
    ∙ fold-append (replace_key column_cmp) [] (numbered 0 names) (record { name = name; at = 0 + length names })
    ∙ (let e : 0 + length names ≡ length names = omega arith in ap (λ (k : ℕ). replace_key column_cmp (columns_of names) (record { name = name; at = k })) e)

-- ---- whether a name is there already

eq-reverse : (o : Ordering) → is_eq (ordering_reverse o) ≡ is_eq o
eq-reverse Less = refl
eq-reverse Equal = refl
eq-reverse Greater = refl

turned : (c x : PlainColumn) → is_eq (column_cmp c x) ≡ is_eq (column_cmp x c)
turned c x = ap is_eq (column_cmp_total.antisymm c x) ∙ eq-reverse (column_cmp x c)

named-test : (v : PlainColumn) → IsTest column_cmp (λ k. is_eq (column_cmp v k))
named-test v c x e = turned v x ∙ sym (ap is_eq (column_cmp_total.congr c x v e)) ∙ turned c v

any-numbered : (v : PlainColumn) (n : ℕ) (names : List (List ℕ)) → list_any (λ k. is_eq (column_cmp v k)) (numbered n names) ≡ has_field names v.name
any-numbered v n [] = refl
any-numbered v n (name ∷ names) = (let more = any-numbered v (n + 1) names in rw (is_eq-slice_cmp v.name name) (ap (λ b. bytes_eq v.name name || b) more))

pub found : (keys : List Column) (column : Column) (names : List (List ℕ)) → map column_view keys ≡ columns_of names
    → is_some (find (λ k. is_eq (on column_view column_cmp column k)) keys) ≡ has_field names column.name.now
found keys column names e =
    find-some (λ k. is_eq (on column_view column_cmp column k)) keys
    ∙ sym (any-map column_view (λ k. is_eq (column_cmp (column_view column) k)) keys)
    ∙ ap (list_any (λ k. is_eq (column_cmp (column_view column) k))) e
    ∙ any-put_all column_cmp (λ k. is_eq (column_cmp (column_view column) k)) (named-test (column_view column)) [] (numbered 0 names)
    ∙ any-numbered (column_view column) 0 names

pub put-view : (keys : List Column) (column : Column) → map column_view (replace_key (on column_view column_cmp) keys column) ≡ replace_key column_cmp (map column_view keys) (column_view column)
put-view keys column = replace_key-map column_view column_cmp keys column

-- ---- repeats

pub repeats-old : (earlier more : List (List ℕ)) (name : List ℕ) → has_field earlier name ≡ true → repeats earlier (name ∷ more) ≡ true
repeats-old earlier more name e = ap (λ b. b || repeats (earlier ++ name ∷ []) more) e

pub repeats-new : (earlier more : List (List ℕ)) (name : List ℕ) → has_field earlier name ≡ false → repeats earlier (name ∷ more) ≡ repeats (earlier ++ name ∷ []) more
repeats-new earlier more name e = ap (λ b. b || repeats (earlier ++ name ∷ []) more) e

-- ---- one turn of the loop over the heading

pub put-column : (keys new : List Column) (column : Column) (names : List (List ℕ)) (name : List ℕ) → map column_view keys ≡ columns_of names → new ≡ replace_key (on column_view column_cmp) keys column
    → column.name.now ≡ name → column.at ≡ length names → map column_view new ≡ columns_of (names ++ name ∷ [])
put-column keys new column names name are put is at =
    ap (map column_view) put ∙ put-view keys column
    ∙ ap₂ (replace_key column_cmp) are (ap₂ (λ (n : List ℕ) (k : ℕ). record { name = n; at = k }) is at)
    ∙ sym (columns-more names name)
