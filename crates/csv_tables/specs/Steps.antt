-- For private clauses: where a reader of records stands, and what a step comes to.
use Rattle.std.specs.Prelude.{◌≡◌, ◌≢◌, ℕ, ◌≤◌, true, false, List, [], ◌∷◌, ◌++◌, length, Option, Some, None, Result, Ok, Err, ⊤, Bool, String, Vec}
use Rattle.std.specs.declared.alloc.Global.{Global}
use Rattle.std.specs.List.{list_all}
use Rattle.std.specs.Str.{is_utf8}
use Rattle.csv.specs.Reading.{Ready, Reached, reader_trim, reader_config, is_flexible, expected_len, reader_state, source_of, default_config, records}
use Rattle.csv.specs.declared.reader.Reader.{Reader}
use Rattle.csv.specs.declared.parser.State.TheVariants as st
use Rattle.csv.specs.declared.reader.Trim.TheVariants as trim
use Rattle.key_spec.specs.View.{names_view}
use Rattle.csv_tables.specs.Records.{heading_why, first_bad, table_by}
use Rattle.csv_tables.specs.View.{IsBad, rows_view}
use Rattle.csv_tables.specs.declared.fault.TableFault.{TableFault}
use Rattle.csv_tables.specs.declared.fault.TableFault.TheVariants.{Bad, Memory}

-- the reader has read these records of a text, and goes on with the next one, which has so many fields
pub record Stands {R : Type 0} (rem : R → Option (List ℕ)) (rdr : Reader R) (text : List ℕ) (done : List (List (List ℕ))) (columns : Option ℕ) : Type 0 where
  pub trim : reader_trim rdr ≡ trim.None
  pub ready : Ready rdr
  pub config : reader_config rdr ≡ default_config
  pub strict : is_flexible rdr ≡ false
  pub expected : expected_len rdr ≡ columns
  pub left : List ℕ
  pub source : source_of rem rdr ≡ Some left
  pub reached : Reached default_config st.StartRecord text done (reader_state rdr) left

-- the records of the text begin with these and then this one
pub record Continues (text : List ℕ) (done : List (List (List ℕ))) (fields : List (List ℕ)) : Type 0 where
  pub more : List (List (List ℕ))
  pub are : records default_config text ≡ done ++ fields ∷ more

-- the next record, of this number, has another number of fields than it should
pub record IsUneven (text : List ℕ) (done : List (List (List ℕ))) (columns : Option ℕ) : Type 0 where
  pub fields : List (List ℕ)
  pub continues : Continues text done fields
  pub wanted : ℕ
  pub columns_are : columns ≡ Some wanted
  pub other : wanted ≢ length fields

-- the next record is these fields, and there are as many as there should be
pub record IsNext {R : Type 0} (rem : R → Option (List ℕ)) (rdr : Reader R) (text : List ℕ) (done : List (List (List ℕ))) (columns : Option ℕ) (fields : List (List ℕ)) : Type 0 where
  pub stands : Stands rem rdr text (done ++ fields ∷ []) (Some (length fields))
  pub even : (n : ℕ) → columns ≡ Some n → length fields ≡ n
  pub continues : Continues text done fields

-- what a step to the record of this number comes to
abbrev pub Steps : {R : Type 0} → (R → Option (List ℕ)) → Reader R → List ℕ → List (List (List ℕ)) → Option ℕ → List (List ℕ) → ℕ → Result Bool TableFault → Type 0
Steps rem rdr text done columns fields number (Ok true) = IsNext rem rdr text done columns fields
Steps rem rdr text done columns fields number (Ok false) = records default_config text ≡ done
Steps rem rdr text done columns fields number (Err (Bad row why)) = (row ≡ number) × (why ≡ 2) × IsUneven text done columns
Steps rem rdr text done columns fields number (Err Memory) = ⊤

-- the fields of the record of this number as texts, or that one of them is none
abbrev pub Owns : List (List ℕ) → ℕ → Result (Vec (String Global) Global) TableFault → Type 0
Owns fields number (Ok texts) = (names_view texts.items ≡ fields) × (list_all is_utf8 fields ≡ true)
Owns fields number (Err (Bad row why)) = (row ≡ number) × (why ≡ 3) × (list_all is_utf8 fields ≡ false)
Owns fields number (Err Memory) = ⊤

-- a heading that is good
pub record IsHeading {R : Type 0} (rem : R → Option (List ℕ)) (rdr : Reader R) (text : List ℕ) (heading : List (List ℕ)) : Type 0 where
  pub stands : Stands rem rdr text (heading ∷ []) (Some (length heading))
  pub good : heading_why heading ≡ None

abbrev pub ReadsHeading : {R : Type 0} → (R → Option (List ℕ)) → Reader R → List ℕ → Result (Vec (String Global) Global) TableFault → Type 0
ReadsHeading rem rdr text (Ok heading) = IsHeading rem rdr text (names_view heading.items)
ReadsHeading rem rdr text (Err e) = IsBad e (table_by (records default_config text))

-- all rows behind a heading
pub record AreRows (text : List ℕ) (heading : List (List ℕ)) (rows : List (List (List ℕ))) : Type 0 where
  pub are : records default_config text ≡ heading ∷ rows
  pub good : first_bad (length heading) 2 rows ≡ None
  pub few : length rows ≤ length text

abbrev pub ReadsRows : List ℕ → List (List ℕ) → Result (Vec (Vec (String Global) Global) Global) TableFault → Type 0
ReadsRows text heading (Ok rows) = AreRows text heading (rows_view rows.items)
ReadsRows text heading (Err e) = IsBad e (table_by (records default_config text))
