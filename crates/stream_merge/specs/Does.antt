-- What a part of the merge has the writer do, and what comes next then.
use Rattle.std.specs.Prelude.{◌≡◌, ℕ, ◌+◌, ◌-◌, ◌≤◌, max, List, length, Option, Some, None, ⊤}
use Rattle.record_cursor.specs.Items.{PlainItem}
use Rattle.record_cursor.specs.Moves.{Comes}
use Rattle.record_writer.specs.Data.{WriterCall}
use Rattle.record_writer.specs.Calls.{all_appended, after_all, AllFit}
use Rattle.record_copy.specs.State.{State}
use Rattle.stream_merge.specs.Passes.{Unless, Passes}
use Rattle.stream_merge.specs.Room.{StopsIf}
use Rattle.stream_merge.specs.declared.fault.MergeFault.{MergeFault}
use Rattle.stream_merge.specs.declared.fault.MergeFault.TheVariants.{Damage, TooLong}
use Rattle.xa_outside.specs.Numbers.{lead}

-- the writer was called so, one call after the other, which appended these bytes
pub record Walks (x : List ℕ) (cs : List WriterCall) (s t : State) : Type 0 where
  pub same : x ≡ all_appended s.writer cs
  pub writer : t.writer ≡ after_all s.writer cs
  pub fit : AllFit s.writer cs

-- The writer was called so, or the calls do not all fit, or the folder or memory failed. There is no damage.
abbrev pub Made : List ℕ → List WriterCall → State → State → Option MergeFault → Type 0
Made x cs s t None = Walks x cs s t
Made x cs s t (Some TooLong) = ¬ AllFit s.writer cs
Made x cs s t (Some Damage) = ⊥
Made x cs s t (Some other) = ⊤

-- The writer is called so, which appends these bytes, and nothing is read; the bytes are counted as written.
pub record Sends (x : List ℕ) (cs : List WriterCall) (s t : State) (ended : Option MergeFault) : Type 0 where
  pub passes : Passes x 0 s t ended
  pub made : Made x cs s t ended
  pub same_cursor : t.cursor ≡ s.cursor
  pub same_gap : t.numbers.gap ≡ s.numbers.gap
  pub paid : Unless ended (lead t.numbers ≤ lead s.numbers - length (all_appended s.writer cs))

-- The same, whatever the bytes are; and where one of the calls does not fit, those before it were made.
pub record Sent (cs : List WriterCall) (s t : State) (ended : Option MergeFault) : Type 0 where
  pub appended : List ℕ
  pub sends : Sends appended cs s t ended
  pub stops : StopsIf appended cs s.writer ended

-- The writer is called so, which appends these bytes, and these items come next. Between any two calls what was read is ahead of what was written by at
-- most so many bytes more than before.
pub record Does (x : List ℕ) (w : ℕ) (cs : List WriterCall) (next : List PlainItem) (s t : State) (ended : Option MergeFault) : Type 0 where
  pub made : Made x cs s t ended
  pub follows : Unless ended (Comes t.files t.cursor next)
  pub gap : t.numbers.gap ≤ max s.numbers.gap (lead s.numbers + w)
