-- What a record is: plain data.
use Rattle.std.specs.Prelude.{ℕ, List}
use Rattle.keyed_tree.specs.Data.{PlainKey, PlainLabel}
use Rattle.archive_tree.specs.Data.{Stamp}

-- Where a child stands: the offset of its first byte from that of the first child, its length, and the length of the body
-- of its END, or 0 for a leaf.
pub record PlainEntry : Type 0 where
  pub start : ℕ
  pub length : ℕ
  pub dir : ℕ

-- an entry and the effective set of each child of a node
pub record PlainDir : Type 0 where
  pub entries : List PlainEntry
  pub sets : List (List (ℕ × ℕ))

pub data PlainRec : Type 0 where
  inner_rec : PlainLabel → Stamp → PlainRec
  leaf_rec : PlainLabel → Stamp → PlainRec
  alt_rec : Stamp → PlainKey → PlainRec
  end_rec : PlainDir → PlainRec
  leaf_end : PlainRec
