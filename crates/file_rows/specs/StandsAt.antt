-- Where the parts of an archive's nodes stand in its file.
use Rattle.std.specs.Prelude.{◌≡◌, ℕ, ◌+◌, ◌-◌, ◌*◌, ◌==◌, Bool, List, ◌∷◌, ◌++◌, length, take, drop, Some, nat_le, if◌then◌else◌}
use Rattle.std.specs.Int.{w32, w64}
use Rattle.std.specs.List.{flat_map}
use Rattle.xa_fields.specs.Reading.{byte_at, number_at}
use Rattle.xa_fields.specs.Spelling.{u32_bytes, u64_bytes}
use Rattle.record_format.specs.Nodes.{Piece, piece_bytes, dir_of, closed_by_end}
use Rattle.record_format.specs.Spelling.{dir_bytes, rec_bytes}
use Rattle.file_rows.specs.View.{PlainRow, PlainChild}

-- these bytes stand at the offset
abbrev pub StandsAt : List ℕ → ℕ → List ℕ → Type 0
StandsAt bytes at part = take (length part) (drop at bytes) ≡ part

-- These pieces stand one behind another, and the END with their directory behind them.
pub record RowLaid (bytes : List ℕ) (row : PlainRow) (ps : List Piece) : Type 0 where
  pub stands : StandsAt bytes row.first (flat_map rec_bytes (closed_by_end ps))
  pub end : row.end ≡ row.first + length (flat_map piece_bytes ps)
  pub dir : row.dir ≡ length (dir_bytes (dir_of ps))

-- This piece stands there.
pub record ChildLaid (bytes : List ℕ) (child : PlainChild) (p : Piece) : Type 0 where
  pub stands : StandsAt bytes child.first (piece_bytes p)
  pub end : child.end ≡ child.first + length (piece_bytes p)
  pub dir : child.dir ≡ p.dir

-- the kind and the length of an END, and the number of children
abbrev pub head_bytes : ℕ → ℕ → List ℕ
head_bytes dir count = 4 ∷ (u64_bytes dir ++ u32_bytes count)

-- The kind of an END, the length of its body and the number of children stand at the front of the bytes.
pub record IsHead (bytes : List ℕ) (dir count : ℕ) : Type 0 where
  pub kind : byte_at bytes ≡ Some (4, drop 1 bytes)
  pub size : number_at w64 (drop 1 bytes) ≡ Some (dir, drop 9 bytes)
  pub children : number_at w32 (drop 9 bytes) ≡ Some (count, drop 13 bytes)

-- An entry stands at the front of the bytes, in the directory of a row that begins at `first`, and says where the child is.
pub record IsEntered (bytes : List ℕ) (first : ℕ) (child : PlainChild) : Type 0 where
  pub start : ℕ
  pub length : ℕ
  pub begins : number_at w64 bytes ≡ Some (start, drop 8 bytes)
  pub has : number_at w64 (drop 8 bytes) ≡ Some (length, drop 16 bytes)
  pub dir : number_at w64 (drop 16 bytes) ≡ Some (child.dir, drop 24 bytes)
  pub first_is : child.first ≡ first + start
  pub end_is : child.end ≡ first + start + length

-- A directory of so many children may have so many bytes: of none their number alone, and of others an entry for each and a
-- tree, which has a node of twelve bytes or more for each and for each two that are joined.
abbrev pub has_room : ℕ → ℕ → Bool
has_room count dir = if count == 0 then dir == 4 else nat_le (4 + 24 * count + 12 * (2 * count - 1)) dir

-- the offset of the child at a position in a row that begins here
abbrev pub start_in : ℕ → List Piece → ℕ → ℕ
start_in first ps i = first + length (flat_map piece_bytes (take i ps))
