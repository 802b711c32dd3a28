-- What a table is: plain data, with a list of bytes for each field.
use Rattle.std.specs.Prelude.{ℕ, List}

pub record PlainTable : Type 0 where
  pub heading : List (List ℕ)
  pub rows : List (List (List ℕ))

-- Why some bytes are no table: the number of the record, from 1, or 0 where there is none, and the kind of the fault.
pub record PlainBadRow : Type 0 where
  pub row : ℕ
  pub why : ℕ
