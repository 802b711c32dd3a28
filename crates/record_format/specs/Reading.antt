-- What stands at the front of some bytes: a directory or a record, and the bytes behind it.
use Rattle.std.specs.Prelude.{ℕ, zero, suc, ◌-◌, ◌*◌, Bool, ◌&&◌, ◌==◌, List, [], ◌∷◌, length, take, drop, Option, Some, None, option_map, nat_lt, bytes_eq, if◌then◌else◌}
use Rattle.std.specs.Int.{w64}
use Rattle.xa_fields.specs.Reading.{Reader, ◌>>=◌, byte_at, number_at, many_at, list_at, both_at, whole}
use Rattle.timestamp_tree.specs.Reading.{stored_at}
use Rattle.record_parts.specs.Bounds.{most}
use Rattle.record_parts.specs.Reading.{label_at, stamp_at, value_at}
use Rattle.record_format.specs.Data.{PlainEntry, PlainDir, PlainRec, inner_rec, leaf_rec, alt_rec, end_rec, leaf_end}
use Rattle.record_format.specs.Spelling.{dir_bytes}

-- ---- directories

unfoldable pub entry_at : Reader PlainEntry
entry_at bytes = do
  start ← number_at w64 bytes
  length ← number_at w64 start.1
  dir ← number_at w64 length.1
  Some (record { start = start.0; length = length.0; dir = dir.0 }, dir.1)

-- the sets of the nodes that have no left part
abbrev pub leaf_sets : List (List (ℕ × ℕ) × ℕ) → List (List (ℕ × ℕ))
leaf_sets [] = []
leaf_sets (n ∷ ns) = if n.1 == 0 then n.0 ∷ leaf_sets ns else leaf_sets ns

-- the nodes that were read, as the sets of their leaves
abbrev pub with_leaf_sets : Option (List (List (ℕ × ℕ) × ℕ) × List ℕ) → Option (List (List (ℕ × ℕ)) × List ℕ)
with_leaf_sets read = option_map (λ x. (leaf_sets x.0, x.1)) read

-- the number of nodes of a tree over k sets
abbrev pub node_count : ℕ → ℕ
node_count k = 2 * k - 1

-- the entries, and the sets of the leaves of what stands behind them
unfoldable pub entries_and_leaves : Reader PlainDir
entries_and_leaves bytes = do
  entries ← list_at entry_at bytes
  sets ← with_leaf_sets (many_at (stored_at most) (node_count (length entries.0)) entries.1)
  Some (record { entries = entries.0; sets = sets.0 }, sets.1)

-- each entry has its set, and these bytes are the directory's
abbrev pub spells_dir : List ℕ → PlainDir → Bool
spells_dir bytes d = length d.sets == length d.entries && bytes_eq (dir_bytes d) bytes

-- the directory that all of the bytes are
unfoldable pub whole_dir : List ℕ → Option PlainDir
whole_dir bytes = do
  d ← whole entries_and_leaves bytes
  if spells_dir bytes d then Some d else None

-- ---- records

-- the record of this kind that all of the bytes are the body of
unfoldable pub record_of : ℕ → List ℕ → Option PlainRec
record_of zero body = None
record_of (suc zero) body = option_map (λ x. inner_rec x.0 x.1) (whole (both_at label_at stamp_at) body)
record_of (suc (suc zero)) body = option_map (λ x. leaf_rec x.0 x.1) (whole (both_at label_at stamp_at) body)
record_of (suc (suc (suc zero))) body = option_map (λ x. alt_rec x.0 x.1) (whole (both_at stamp_at value_at) body)
record_of (suc (suc (suc (suc zero)))) body = option_map end_rec (whole_dir body)
record_of (suc (suc (suc (suc (suc zero))))) body = if length body == 0 then Some leaf_end else None
record_of (suc (suc (suc (suc (suc (suc k)))))) body = None

-- a kind, and the bytes of a body behind their length
unfoldable pub frame_at : Reader (ℕ × List ℕ)
frame_at bytes = do
  kind ← byte_at bytes
  n ← number_at w64 kind.1
  if nat_lt (length n.1) n.0 then None else Some ((kind.0, take n.0 n.1), drop n.0 n.1)

unfoldable pub record_at : Reader PlainRec
record_at bytes = do
  f ← frame_at bytes
  r ← record_of f.0.0 f.0.1
  Some (r, f.1)

-- the record that all of the bytes are
abbrev pub whole_record : List ℕ → Option PlainRec
whole_record = whole record_at
