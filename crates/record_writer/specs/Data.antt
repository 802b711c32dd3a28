-- What a writer holds, and what it is called to do: plain data.
use Rattle.std.specs.Prelude.{ℕ, List, Option}
use Rattle.keyed_tree.specs.Data.{PlainKey, PlainLabel}
use Rattle.archive_tree.specs.Data.{Stamp}
use Rattle.record_format.specs.Data.{PlainDir}

-- The finished children of an open inner node, or of the virtual root: the offset of the first child's first byte, and the
-- directory of the children. Offsets are counted from the first byte of the file.
pub record OpenRow : Type 0 where
  pub start : ℕ
  pub dir : PlainDir

-- an inner node that stands begun: the offset of its first byte, its effective set, and the row that it stands in
pub record OpenInner : Type 0 where
  pub begin : ℕ
  pub set : List (ℕ × ℕ)
  pub row : OpenRow

-- a leaf that stands begun: the offset of its first byte, and its effective set
pub record OpenLeaf : Type 0 where
  pub begin : ℕ
  pub set : List (ℕ × ℕ)

-- How many bytes were appended, the row of the inner node that was begun last, or of the virtual root, the inner nodes that
-- stand begun, from the last to the first, and the leaf that stands begun, if one does.
pub record PlainWriter : Type 0 where
  pub written : ℕ
  pub row : OpenRow
  pub inners : List OpenInner
  pub leaf : Option OpenLeaf

-- The calls of a writer. A node is begun with its label, its timestamp and its effective set.
pub data WriterCall : Type 0 where
  call_inner : PlainLabel → Stamp → List (ℕ × ℕ) → WriterCall
  call_leaf : PlainLabel → Stamp → List (ℕ × ℕ) → WriterCall
  call_alt : Stamp → PlainKey → WriterCall
  call_end_leaf : WriterCall
  call_end_inner : WriterCall
  call_finish : WriterCall
