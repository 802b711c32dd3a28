-- Where the parts of a directory stand in its bytes.
use Rattle.std.specs.Prelude.{◌≡◌, ℕ, ◌+◌, ◌*◌, List, length, take, drop, Some}
use Rattle.std.specs.List.{flat_map, slice_get}
use Rattle.xa_fields.specs.Spelling.{u32_bytes}
use Rattle.record_format.specs.Data.{PlainEntry, PlainDir}
use Rattle.record_format.specs.Nodes.{Piece, piece_bytes}
use Rattle.record_format.specs.Spelling.{entry_bytes, sets_bytes, dir_bytes}

-- The number of children, then 24 bytes for each entry, then the tree over the sets.
pub record DirParts (d : PlainDir) : Type 0 where
  pub count : take 4 (dir_bytes d) ≡ u32_bytes (length d.entries)
  pub entry : (i : ℕ) (e : PlainEntry) → slice_get d.entries i ≡ Some e → take 24 (drop (4 + 24 * i) (dir_bytes d)) ≡ entry_bytes e
  pub sets : drop (4 + 24 * length d.entries) (dir_bytes d) ≡ sets_bytes d.sets

-- the entry of the piece at this position
abbrev pub entry_of : List Piece → ℕ → Piece → PlainEntry
entry_of ps i p = record { start = length (flat_map piece_bytes (take i ps)); length = length (piece_bytes p); dir = p.dir }
