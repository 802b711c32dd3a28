-- The plain data that each value stands for.
use Rattle.std.specs.Prelude.{◌≡◌, ℕ, List, map, String, Vec, Result, Err, ⊤}
use Rattle.std.specs.declared.alloc.Global.{Global}
use Rattle.key_spec.specs.View.{names_view}
use Rattle.csv_tables.specs.Data.{PlainTable, PlainBadRow}
use Rattle.csv_tables.specs.declared.table.Table.{Table}
use Rattle.csv_tables.specs.declared.fault.TableFault.{TableFault}
use Rattle.csv_tables.specs.declared.fault.TableFault.TheVariants.{Bad, Memory}

abbrev pub rows_view : List (Vec (String Global) Global) → List (List (List ℕ))
rows_view rows = map (λ (row : Vec (String Global) Global). names_view row.items) rows

abbrev pub table_view : Table → PlainTable
table_view t = record { heading = names_view t.heading.items; rows = rows_view t.rows.items }

-- the fault that is the answer; want of memory says nothing
abbrev pub IsBad : TableFault → Result PlainTable PlainBadRow → Type 0
IsBad (Bad row why) answer = answer ≡ Err (record { row = row; why = why })
IsBad Memory answer = ⊤
