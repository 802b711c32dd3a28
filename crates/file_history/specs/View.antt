-- What is found on the way down, as plain data.
use Rattle.std.specs.Prelude.{ℕ, ◌+◌, ◌-◌, ◌*◌, Option, Some, None, Result, Ok, Err, ⊤}
use Rattle.archive_tree.specs.Data.{Stamp}
use Rattle.archive_tree.specs.View.{stamp_view}
use Rattle.record_cursor.specs.declared.fault.CursorFault.{CursorFault}
use Rattle.file_rows.specs.declared.places.Row.{Row}
use Rattle.file_history.specs.declared.open.Met.{Met}
use Rattle.file_history.specs.declared.open.Met.TheVariants as met
use Rattle.file_history.specs.declared.open.Found.{Found}
use Rattle.file_history.specs.declared.open.Opened.{Opened}
use Rattle.file_history.specs.declared.open.Opened.TheVariants as opened
use Rattle.file_history.specs.declared.search.Part.{Part}
use Rattle.file_history.specs.declared.search.Probed.{Probed}
use Rattle.file_history.specs.declared.search.Probed.TheVariants as probed

-- a child stands before what is wanted or behind it, or is what is wanted, with its timestamp
pub data PlainMet : Type 0 where
  stands_before : PlainMet
  stands_behind : PlainMet
  met_inner : Stamp → PlainMet
  met_leaf : Stamp → PlainMet

abbrev pub met_view : Met → PlainMet
met_view met.Before = stands_before
met_view met.Behind = stands_behind
met_view (met.Inner s) = met_inner (stamp_view s)
met_view (met.Leaf s) = met_leaf (stamp_view s)

-- The children at these positions, but not at the last, stand between these offsets, below so many inner nodes that stand open.
pub record PlainPart : Type 0 where
  pub depth : ℕ
  pub low : ℕ
  pub high : ℕ
  pub low_at : ℕ
  pub high_at : ℕ

abbrev pub part_view : Part → PlainPart
part_view p = record { depth = p.depth; low = p.low; high = p.high; low_at = p.low_at; high_at = p.high_at }

-- ---- how many bytes are left to read

-- of a row: its children, and the END behind them
abbrev pub span_of : Row → ℕ
span_of r = r.end + (9 + r.dir) - r.first

abbrev pub span_in : Option Row → ℕ
span_in None = 0
span_in (Some r) = span_of r

-- of a part of a row: an entry for each child, and the children
abbrev pub room_of : Part → ℕ
room_of p = 24 * (p.high - p.low) + (p.high_at - p.low_at)

abbrev pub left_opened : Result Opened CursorFault → ℕ
left_opened (Ok opened.Before) = 0
left_opened (Ok opened.Behind) = 0
left_opened (Ok (opened.Here f)) = span_in f.row
left_opened (Err e) = 0

abbrev pub left_probed : Result Probed CursorFault → ℕ
left_probed (Ok (probed.Here f)) = span_in f.row
left_probed (Ok (probed.Beside p)) = room_of p
left_probed (Err e) = 0

abbrev pub left_found : Result (Option Found) CursorFault → ℕ
left_found (Ok None) = 0
left_found (Ok (Some f)) = span_in f.row
left_found (Err e) = 0

-- where something was found, this holds
abbrev pub OnFound : {T : Type 0} → Result (Option T) CursorFault → Type 0 → Type 0
OnFound (Ok (Some x)) P = P
OnFound other P = ⊤
