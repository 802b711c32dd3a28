-- Rows and children as plain data.
use Rattle.std.specs.Prelude.{ℕ}
use Rattle.file_rows.specs.declared.places.Row.{Row}
use Rattle.file_rows.specs.declared.places.Child.{Child}

-- The offsets of the first child and of the END behind the last, and the length of the END's body.
pub record PlainRow : Type 0 where
  pub first : ℕ
  pub end : ℕ
  pub dir : ℕ

abbrev pub row_view : Row → PlainRow
row_view r = record { first = r.first; end = r.end; dir = r.dir }

-- The offsets of the first byte and behind the last, and the length of the body of its END, or 0 for a leaf.
pub record PlainChild : Type 0 where
  pub first : ℕ
  pub end : ℕ
  pub dir : ℕ

abbrev pub child_view : Child → PlainChild
child_view c = record { first = c.first; end = c.end; dir = c.dir }
