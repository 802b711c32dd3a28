-- The first bad record, behind good ones.
use Rattle.std.proofs.Common.{◌≡◌, ◌≢◌, ℕ, ◌+◌, ◌==◌, Bool, true, false, cond, List, [], ◌∷◌, ◌++◌, length, Option, Some, None, Ok, Err, refl, ap, sym, ◌∙◌, arith, subst}
use Rattle.std.proofs.lemmas.Bool.{eq-eqb, ne_eqb, cond-true, cond-false}
use Rattle.std.specs.List.{list_all, AllByRecursion}
use Rattle.std.specs.Option.{option_or}
use Rattle.std.specs.Str.{is_utf8}
use Rattle.csv_tables.specs.Data.{PlainTable, PlainBadRow}
use Rattle.csv_tables.specs.Records.{text_why, record_why, heading_why, bad, first_bad, unless_bad, table_by, repeats, IsRegular}

-- ---- why a record is bad

pub uneven-why : (n : ℕ) (fields : List (List ℕ)) → n ≢ length fields → record_why n fields ≡ Some 2
uneven-why n fields other = cond-false (length fields == n) (text_why fields) (Some 2) (ne_eqb (length fields) n (λ e. other (sym e)))

pub even-why : (n : ℕ) (fields : List (List ℕ)) → length fields ≡ n → record_why n fields ≡ text_why fields
even-why n fields same = cond-true (length fields == n) (text_why fields) (Some 2) (eq-eqb (length fields) n same)

pub no_text-why : (fields : List (List ℕ)) → list_all is_utf8 fields ≡ false → text_why fields ≡ Some 3
no_text-why fields e = rw e refl

pub text-why : (fields : List (List ℕ)) → list_all is_utf8 fields ≡ true → text_why fields ≡ None
text-why fields e = rw e refl

-- ---- behind good records

none-both : (x y : Option PlainBadRow) → option_or x y ≡ None → (x ≡ None) × (y ≡ None)
none-both None y e = (refl, e)
none-both (Some b) y e = absurd (no e)
  where
    no : Some b ≡ None → ⊥
    no e = cc

bad_or : (row : ℕ) (more : List (List (List ℕ))) (n : ℕ) → option_or None (first_bad n row more) ≡ first_bad n row more
bad_or row more n = refl

first-behind : (n row : ℕ) (done : List (List (List ℕ))) (fields : List (List ℕ)) (more : List (List (List ℕ))) → first_bad n row done ≡ None
    → first_bad n row (done ++ fields ∷ more) ≡ first_bad n (row + length done) (fields ∷ more)
first-behind n row [] fields more good = let e : row ≡ row + 0 = omega arith in ap (λ (r : ℕ). first_bad n r (fields ∷ more)) e
first-behind n row (x ∷ done) fields more good =
    let both = none-both (bad row (record_why n x)) (first_bad n (row + 1) done) good in
    let e : (row + 1) + length done ≡ row + length (x ∷ done) = omega arith in
    ap (λ (o : Option PlainBadRow). option_or o (first_bad n (row + 1) (done ++ fields ∷ more))) both.0
    ∙ first-behind n (row + 1) done fields more both.1
    ∙ ap (λ (r : ℕ). first_bad n r (fields ∷ more)) e

-- a good record more
pub good-more : (n row : ℕ) (done : List (List (List ℕ))) (fields : List (List ℕ)) → first_bad n row done ≡ None → record_why n fields ≡ None → first_bad n row (done ++ fields ∷ []) ≡ None
good-more n row done fields good e = first-behind n row done fields [] good ∙ (rw e refl)

-- a bad record behind a good heading and good records
pub bad-row : (heading : List (List ℕ)) (done : List (List (List ℕ))) (fields : List (List ℕ)) (more all : List (List (List ℕ))) (why : ℕ) → all ≡ (heading ∷ done) ++ fields ∷ more
    → heading_why heading ≡ None → first_bad (length heading) 2 done ≡ None → record_why (length heading) fields ≡ Some why
    → table_by all ≡ Err (record { row = 2 + length done; why = why })
bad-row heading done fields more all why are head good e =
    let table : PlainTable = record { heading = heading; rows = done ++ fields ∷ more } in
    let first : first_bad (length heading) 2 (done ++ fields ∷ more) ≡ Some (record { row = 2 + length done; why = why }) =
    first-behind (length heading) 2 done fields more good ∙ ap (λ (o : Option ℕ). option_or (bad (2 + length done) o) (first_bad (length heading) (2 + length done + 1) more)) e in
    ap table_by are
    ∙ ap (λ (o : Option ℕ). unless_bad table (option_or (bad 1 o) (first_bad (length heading) 2 (done ++ fields ∷ more)))) head
    ∙ ap (unless_bad table) first

-- a bad heading
pub bad-heading : (heading : List (List ℕ)) (more all : List (List (List ℕ))) (why : ℕ) → all ≡ heading ∷ more → heading_why heading ≡ Some why → table_by all ≡ Err (record { row = 1; why = why })
bad-heading heading more all why are e =
    let table : PlainTable = record { heading = heading; rows = more } in
    ap table_by are ∙ ap (λ (o : Option ℕ). unless_bad table (option_or (bad 1 o) (first_bad (length heading) 2 more))) e

-- a good heading and good rows
pub good-table : (heading : List (List ℕ)) (more all : List (List (List ℕ))) → all ≡ heading ∷ more → heading_why heading ≡ None → first_bad (length heading) 2 more ≡ None
    → table_by all ≡ Ok (record { heading = heading; rows = more })
good-table heading more all are head good =
    let table : PlainTable = record { heading = heading; rows = more } in
    ap table_by are
    ∙ ap (λ (o : Option ℕ). unless_bad table (option_or (bad 1 o) (first_bad (length heading) 2 more))) head
    ∙ ap (unless_bad table) good

-- ---- headings

pub text-heading : (fields : List (List ℕ)) → list_all is_utf8 fields ≡ false → heading_why fields ≡ Some 3
text-heading fields e = rw e refl

pub twice-heading : (fields : List (List ℕ)) → list_all is_utf8 fields ≡ true → repeats [] fields ≡ true → heading_why fields ≡ Some 4
twice-heading fields e h = rw (e, h) refl

pub good-heading : (fields : List (List ℕ)) → list_all is_utf8 fields ≡ true → repeats [] fields ≡ false → heading_why fields ≡ None
good-heading fields e h = rw (e, h) refl

nothing : {X : Type 0} {P : Type 0} (x : X) → Some x ≡ None → P
nothing x e = cc

different-by : (t : Option ℕ) (b : Bool) → option_or t (cond b (Some 4) None) ≡ None → b ≡ false
different-by (Some w) b e = nothing w e
different-by None true e = nothing 4 e
different-by None false e = refl

pub different : (fields : List (List ℕ)) → heading_why fields ≡ None → repeats [] fields ≡ false
different fields e = different-by (text_why fields) (repeats [] fields) e

-- ---- tables without a bad record

even-by : (b : Bool) (t : Option ℕ) (row : ℕ) → bad row (cond b t (Some 2)) ≡ None → b ≡ true
even-by true t row e = refl
even-by false t row e = let fault : PlainBadRow = record { row = row; why = 2 } in nothing fault e

pub all-even : (n row : ℕ) (rows : List (List (List ℕ))) → first_bad n row rows ≡ None → list_all (λ (fields : List (List ℕ)). length fields == n) rows ≡ true
all-even n row [] e = refl
all-even n row (fields ∷ rows) e =
    let both = none-both (bad row (record_why n fields)) (first_bad n (row + 1) rows) e in
    rw (even-by (length fields == n) (text_why fields) row both.0) (all-even n (row + 1) rows both.1)

pub regular : (heading : List (List ℕ)) (rows : List (List (List ℕ))) → heading_why heading ≡ None → first_bad (length heading) 2 rows ≡ None → IsRegular (record { heading = heading; rows = rows })
regular heading rows head good = rw (different heading head, all-even (length heading) 2 rows good) refl

text-by : (b : Bool) (t : Option ℕ) (row : ℕ) → bad row (cond b t (Some 2)) ≡ None → t ≡ None
text-by true None row e = refl
text-by true (Some w) row e = let fault : PlainBadRow = record { row = row; why = w } in nothing fault e
text-by false t row e = let fault : PlainBadRow = record { row = row; why = 2 } in nothing fault e

utf8-by : (b : Bool) → cond {A = Option ℕ} b None (Some 3) ≡ None → b ≡ true
utf8-by true e = refl
utf8-by false e = nothing 3 e

pub all-text : (n row : ℕ) (rows : List (List (List ℕ))) → first_bad n row rows ≡ None → AllByRecursion (λ fields. list_all is_utf8 fields ≡ true) rows
all-text n row [] e = tt
all-text n row (fields ∷ rows) e =
    let both = none-both (bad row (record_why n fields)) (first_bad n (row + 1) rows) e in
    (utf8-by (list_all is_utf8 fields) (text-by (length fields == n) (text_why fields) row both.0), all-text n (row + 1) rows both.1)

text-first : (t o : Option ℕ) → option_or t o ≡ None → t ≡ None
text-first None o e = refl
text-first (Some w) o e = nothing w e

pub heading-text : (fields : List (List ℕ)) → heading_why fields ≡ None → list_all is_utf8 fields ≡ true
heading-text fields e = utf8-by (list_all is_utf8 fields) (text-first (text_why fields) _ e)

-- ---- what every table is

pub record IsGood (table : PlainTable) : Type 0 where
  pub head : heading_why table.heading ≡ None
  pub rows : first_bad (length table.heading) 2 table.rows ≡ None

no_table : {P : Type 0} (fault : PlainBadRow) (table : PlainTable) → Err fault ≡ Ok table → P
no_table fault table e = cc

good-by : (heading : List (List ℕ)) (rows : List (List (List ℕ))) (h : Option ℕ) (r : Option PlainBadRow) (table : PlainTable) → heading_why heading ≡ h → first_bad (length heading) 2 rows ≡ r
    → unless_bad (record { heading = heading; rows = rows }) (option_or (bad 1 h) r) ≡ Ok table → IsGood table
good-by heading rows (Some w) r table a b e = no_table (record { row = 1; why = w }) table e
good-by heading rows None (Some fault) table a b e = no_table fault table e
good-by heading rows None None table a b e =
    let same : record { heading = heading; rows = rows } ≡ table = cc in
    subst IsGood same (record { head = a; rows = b })

pub good : (all : List (List (List ℕ))) (table : PlainTable) → table_by all ≡ Ok table → IsGood table
good [] table e = no_table (record { row = 0; why = 1 }) table e
good (heading ∷ rows) table e = good-by heading rows (heading_why heading) (first_bad (length heading) 2 rows) table refl refl e
