-- What the reading of a heading and of rows comes to, from its steps.
use Rattle.std.proofs.Common.{◌≡◌, ℕ, ◌+◌, Bool, true, false, List, [], ◌∷◌, ◌++◌, length, Option, Some, None, is_some, not, IfNone, IfSome, Ok, Err, refl, ap, ap₂, sym, ◌∙◌, subst, arith}
use Rattle.std.proofs.lemmas.Bool.{true≢false}
use Rattle.std.specs.List.{list_all}
use Rattle.std.specs.Str.{is_utf8}
use Rattle.csv.specs.Reading.{default_config, records}
use Rattle.csv.specs.declared.reader.Reader.{Reader}
use Rattle.csv_tables.specs.Records.{repeats, heading_why, first_bad, table_by}
use Rattle.csv_tables.specs.Steps.{Stands, Steps, IsHeading, AreRows, Owns}
use Rattle.csv_tables.specs.View.{IsBad}
use Rattle.csv_tables.specs.declared.fault.TableFault.{TableFault}
use Rattle.csv_tables.specs.declared.fault.TableFault.TheVariants.{Bad, Memory}
use Rattle.csv_tables.proofs.FaultLemmas.{bad-heading, bad-row, text-heading, twice-heading, good-heading, uneven-why, even-why, no_text-why, text-why, good-more}
use Rattle.csv_tables.proofs.RecordLemmas.{reached-few}

no_columns : {P : Type 0} (n : ℕ) → None ≡ Some n → P
no_columns n e = cc

module _ {R : Type 0} (rem : R → Option (List ℕ)) (rdr : Reader R) (text : List ℕ) where
  pub heading-fails : (fields : List (List ℕ)) (e : TableFault) → Steps rem rdr text [] None fields 1 (Err e) → IsBad e (table_by (records default_config text))
  heading-fails fields (Bad row why) h = no_columns h.2.wanted h.2.columns_are
  heading-fails fields Memory h = tt

  pub no-heading : (fields : List (List ℕ)) → Steps rem rdr text [] None fields 1 (Ok false) → table_by (records default_config text) ≡ Err (record { row = 0; why = 1 })
  no-heading fields h = ap table_by h

  pub heading-bytes : (fields : List (List ℕ)) (e : TableFault) → Steps rem rdr text [] None fields 1 (Ok true) → Owns fields 1 (Err e) → IsBad e (table_by (records default_config text))
  heading-bytes fields (Bad row why) h o =
      bad-heading fields h.continues.more (records default_config text) 3 h.continues.are (text-heading fields o.2)
      ∙ ap₂ (λ (a b : ℕ). Err (record { row = a; why = b })) (sym o.0) (sym o.1)
  heading-bytes fields Memory h o = tt

  pub heading-twice : (fields : List (List ℕ)) → Steps rem rdr text [] None fields 1 (Ok true) → list_all is_utf8 fields ≡ true → repeats [] fields ≡ true
      → table_by (records default_config text) ≡ Err (record { row = 1; why = 4 })
  heading-twice fields h utf8 twice = bad-heading fields h.continues.more (records default_config text) 4 h.continues.are (twice-heading fields utf8 twice)

  pub heading-good : (fields : List (List ℕ)) → Steps rem rdr text [] None fields 1 (Ok true) → list_all is_utf8 fields ≡ true → repeats [] fields ≡ false → IsHeading rem rdr text fields
  heading-good fields h utf8 apart = record { stands = h.stands; good = good-heading fields utf8 apart }

  -- ---- rows

  module _ (heading : List (List ℕ)) (done : List (List (List ℕ))) (number : ℕ) (head : heading_why heading ≡ None) (good : first_bad (length heading) 2 done ≡ None) (at : number ≡ 2 + length done) where
    at_row : (row why w : ℕ) → row ≡ number → why ≡ w → table_by (records default_config text) ≡ Err (record { row = 2 + length done; why = w })
        → table_by (records default_config text) ≡ Err (record { row = row; why = why })
    at_row row why w a b e = rw (a, b, at) e

    pub row-fails : (fields : List (List ℕ)) (e : TableFault) → Steps rem rdr text (heading ∷ done) (Some (length heading)) fields number (Err e) → IsBad e (table_by (records default_config text))
    row-fails fields (Bad row why) h =
        let u = h.2 in
        let n : length heading ≡ u.wanted = wide u.wanted u.columns_are in
        at_row row why 2 h.0 h.1
        (bad-row heading done u.fields u.continues.more (records default_config text) 2 u.continues.are head good (uneven-why (length heading) u.fields (λ q. u.other (sym n ∙ q))))
      where
        wide : (w : ℕ) → Some (length heading) ≡ Some w → length heading ≡ w
        wide w e = cc
    row-fails fields Memory h = tt

    pub row-bytes : (fields : List (List ℕ)) (e : TableFault) → Steps rem rdr text (heading ∷ done) (Some (length heading)) fields number (Ok true) → Owns fields number (Err e)
        → IsBad e (table_by (records default_config text))
    row-bytes fields (Bad row why) h o =
        at_row row why 3 o.0 o.1
        (bad-row heading done fields h.continues.more (records default_config text) 3 h.continues.are head good (even-why (length heading) fields (h.even (length heading) refl) ∙ no_text-why fields o.2))
    row-bytes fields Memory h o = tt

    pub row-good : (fields : List (List ℕ)) → Steps rem rdr text (heading ∷ done) (Some (length heading)) fields number (Ok true) → list_all is_utf8 fields ≡ true
        → Stands rem rdr text (heading ∷ (done ++ fields ∷ [])) (Some (length heading)) × (first_bad (length heading) 2 (done ++ fields ∷ []) ≡ None)
    row-good fields h utf8 =
        let same = h.even (length heading) refl in (
          subst (λ n. Stands rem rdr text (heading ∷ (done ++ fields ∷ [])) (Some n)) same h.stands,
          good-more (length heading) 2 done fields good (even-why (length heading) fields same ∙ text-why fields utf8),
        )

    pub rows-end : (old : Reader R) (fields : List (List ℕ)) → Stands rem old text (heading ∷ done) (Some (length heading)) → Steps rem rdr text (heading ∷ done) (Some (length heading)) fields number (Ok false)
        → AreRows text heading done
    rows-end old fields s h =
        let few = reached-few (heading ∷ done) old.state text s.left s.reached in
        record { are = h; good = good; few = omega (arith, few) }

-- ---- what an option says

pub at_none : {X P : Type 0} (o : Option X) (b : Bool) → b ≡ true → is_some o ≡ not b → IfNone o P → P
at_none None b e f h = h
at_none (Some x) b e f h = absurd (true≢false (f ∙ ap not e))

pub at_some : {X P : Type 0} (o : Option X) (b : Bool) → b ≡ false → is_some o ≡ not b → IfSome o (λ _. P) → P
at_some None b e f h = absurd (true≢false (sym (f ∙ ap not e)))
at_some (Some x) b e f h = h
