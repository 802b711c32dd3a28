-- What a part of the merge does, whatever the archive is.
use Rattle.std.specs.Prelude.{◌≡◌, ℕ, ◌+◌, ◌-◌, ◌≤◌, List, ◌∷◌, ◌++◌, Bool, true, false, Option, Some, None, option_map, Result, Ok, Err, ⊤}
use Rattle.xa_outside.specs.Causes.{Rose}
use Rattle.xa_outside.specs.Numbers.{PullsAndDrafts, lead}
use Rattle.record_cursor.specs.declared.fault.CursorFault.{CursorFault}
use Rattle.record_cursor.specs.declared.fault.CursorFault.TheVariants as cursor
use Rattle.record_writer.specs.Data.{OpenInner, PlainWriter}
use Rattle.record_writer.specs.declared.fault.WriteFault.{WriteFault}
use Rattle.record_writer.specs.declared.fault.WriteFault.TheVariants as writer
use Rattle.record_copy.specs.State.{State}
use Rattle.stream_merge.specs.declared.fault.MergeFault.{MergeFault}
use Rattle.stream_merge.specs.declared.fault.MergeFault.TheVariants.{Damage, Folder, TooLong, Memory}

-- ---- faults

abbrev pub of_cursor : CursorFault → MergeFault
of_cursor cursor.Damage = Damage
of_cursor cursor.Folder = Folder
of_cursor cursor.Memory = Memory

abbrev pub of_writer : WriteFault → MergeFault
of_writer writer.TooLong = TooLong
of_writer writer.Folder = Folder
of_writer writer.Memory = Memory

abbrev pub fault_of : {T : Type 0} → Result T MergeFault → Option MergeFault
fault_of (Ok x) = None
fault_of (Err e) = Some e

-- where there is no fault, this holds
abbrev pub Unless : Option MergeFault → Type 0 → Type 0
Unless None P = P
Unless (Some e) P = ⊤

-- where the folder failed, this holds
abbrev pub IfFolder : Option MergeFault → Type 0 → Type 0
IfFolder (Some Folder) P = P
IfFolder other P = ⊤

-- ---- states

-- how many bytes may be pulled: those by which the cursor moved, and after a fault those that it had left
abbrev pub may_pull : State → State → Option MergeFault → ℕ
may_pull s t None = t.cursor.at - s.cursor.at
may_pull s t (Some e) = s.cursor.length - s.cursor.at

-- The files stay, the draft only grows, by these bytes, the folder fails only where its count rose, and the cursor goes on in its file and no further. What was
-- read is ahead of what was written by at most so many bytes more than before.
pub record Passes (x : List ℕ) (more : ℕ) (s t : State) (ended : Option MergeFault) : Type 0 where
  pub same_files : t.files ≡ s.files
  pub lengthens : t.draft ≡ option_map (λ d. d ++ x) s.draft
  pub later : s.faults ≤ t.faults
  pub cause : IfFolder ended (Rose s.faults t.faults)
  pub same_name : t.cursor.name ≡ s.cursor.name
  pub same_length : t.cursor.length ≡ s.cursor.length
  pub onward : s.cursor.at ≤ t.cursor.at
  pub within : t.cursor.at ≤ t.cursor.length
  pub pulls : PullsAndDrafts (may_pull s t ended) s.numbers t.numbers
  pub ahead : Unless ended (lead t.numbers ≤ lead s.numbers + more)

-- the kind and the length of an END, which were read and to which nothing was written
abbrev pub unpaid : ℕ
unpaid = 9

-- what was read and is not yet written, where there may be more, or the row has ended
abbrev pub unpaid_at : Result Bool MergeFault → ℕ
unpaid_at (Ok true) = 0
unpaid_at (Ok false) = unpaid
unpaid_at (Err e) = 0

abbrev pub unpaid_with : {T : Type 0} → Result (Option T) MergeFault → ℕ
unpaid_with (Ok (Some x)) = 0
unpaid_with (Ok None) = unpaid
unpaid_with (Err e) = 0

-- ---- writers

-- no leaf stands begun, and the inner nodes that do are those of before
pub record Rests (v w : PlainWriter) : Type 0 where
  pub no_leaf : w.leaf ≡ None
  pub inners : w.inners ≡ v.inners

-- no leaf stands begun, and one inner node more than before does
pub record Opens (v w : PlainWriter) : Type 0 where
  pub no_leaf : w.leaf ≡ None
  pub opened : OpenInner
  pub inners : w.inners ≡ opened ∷ v.inners

-- no leaf stands begun, and the inner node that was begun last is closed
pub record Closes (v w : PlainWriter) : Type 0 where
  pub no_leaf : w.leaf ≡ None
  pub closed : OpenInner
  pub inners : v.inners ≡ closed ∷ w.inners
