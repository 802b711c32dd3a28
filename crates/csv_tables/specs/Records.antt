-- The records of a text of comma-separated fields, and the table that they make.
use Rattle.std.specs.Prelude.{ℕ, ◌+◌, ◌==◌, Bool, false, not, ◌&&◌, ◌||◌, List, [], ◌∷◌, ◌++◌, length, if◌then◌else◌, Option, Some, None, option_map, Result, Ok, Err, bytes_eq, IsTrue}
use Rattle.std.specs.List.{list_all, list_any}
use Rattle.std.specs.Option.{option_or}
use Rattle.std.specs.Str.{is_utf8}
use Rattle.csv.specs.Reading.{default_config, strip_bom, records}
use Rattle.csv_tables.specs.Data.{PlainTable, PlainBadRow}

-- A record is the list of its fields. These are the records that `csv` reads with its usual settings, none of them as
-- headers, from the text behind a byte order mark.
unfoldable pub rows : List ℕ → List (List (List ℕ))
rows bytes = records default_config (strip_bom bytes)

-- a field of the record is this name
abbrev pub has_field : List (List ℕ) → List ℕ → Bool
has_field fields name = list_any (bytes_eq name) fields

-- a field stands twice: here, or as one of the earlier ones
abbrev pub repeats : List (List ℕ) → List (List ℕ) → Bool
repeats earlier [] = false
repeats earlier (field ∷ more) = has_field earlier field || repeats (earlier ++ field ∷ []) more

-- 2: another number of fields than the heading has; 3: a field that is not UTF-8
abbrev pub text_why : List (List ℕ) → Option ℕ
text_why fields = if list_all is_utf8 fields then None else Some 3

abbrev pub record_why : ℕ → List (List ℕ) → Option ℕ
record_why columns fields = if length fields == columns then text_why fields else Some 2

-- 4: two fields of the heading are equal
abbrev pub heading_why : List (List ℕ) → Option ℕ
heading_why fields = option_or (text_why fields) (if repeats [] fields then Some 4 else None)

-- the record of this number is bad for that reason
abbrev pub bad : ℕ → Option ℕ → Option PlainBadRow
bad row = option_map (λ why. record { row = row; why = why })

-- the first bad record behind a heading of so many columns; the first of these has this number
abbrev pub first_bad : ℕ → ℕ → List (List (List ℕ)) → Option PlainBadRow
first_bad columns row [] = None
first_bad columns row (fields ∷ more) = option_or (bad row (record_why columns fields)) (first_bad columns (row + 1) more)

abbrev pub unless_bad : PlainTable → Option PlainBadRow → Result PlainTable PlainBadRow
unless_bad table None = Ok table
unless_bad table (Some fault) = Err fault

-- the table of some records, of which the first is the heading, or the first bad one; 1: there is no record
abbrev pub table_by : List (List (List ℕ)) → Result PlainTable PlainBadRow
table_by [] = Err (record { row = 0; why = 1 })
table_by (heading ∷ more) = unless_bad (record { heading = heading; rows = more }) (option_or (bad 1 (heading_why heading)) (first_bad (length heading) 2 more))

-- the table of a text
abbrev pub table_of : List ℕ → Result PlainTable PlainBadRow
table_of bytes = table_by (rows bytes)

-- the fields of the heading are pairwise different, and each row has as many fields
abbrev pub is_regular : PlainTable → Bool
is_regular table = not (repeats [] table.heading) && list_all (λ (row : List (List ℕ)). length row == length table.heading) table.rows

abbrev pub IsRegular : PlainTable → Type 0
IsRegular table = IsTrue (is_regular table)
