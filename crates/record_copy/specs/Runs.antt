-- Which calls of the writer a part of the copying makes.
use Rattle.std.specs.Prelude.{◌≡◌, ℕ, List, ◌∷◌, ◌++◌, Option, Some, None, ⊤}
use Rattle.record_cursor.specs.Items.{PlainItem}
use Rattle.record_writer.specs.Data.{WriterCall}
use Rattle.record_writer.specs.Calls.{all_appended, after_all, Fits, AllFit}
use Rattle.record_copy.specs.Faults.{Unless, IfLong, IfWhole}
use Rattle.record_copy.specs.Passes.{Passes}
use Rattle.record_copy.specs.Seen.{Coming}
use Rattle.record_copy.specs.State.{State}
use Rattle.record_copy.specs.declared.fault.CopyFault.{CopyFault}
use Rattle.record_copy.specs.declared.fault.CopyFault.TheVariants.{Damage, TooLong}

-- These calls were made, and all fit, and the bytes are theirs, unless the folder or memory failed; where it ended for want of room, the next did not fit behind them.
pub record Run (made : List WriterCall) (next : WriterCall) (s t : State) (ended : Option CopyFault) : Type 0 where
  pub bytes : List ℕ
  pub passes : Passes bytes s t ended
  pub same : IfWhole ended (bytes ≡ all_appended s.writer made)
  pub fit : AllFit s.writer made
  pub writer : Unless ended (t.writer ≡ after_all s.writer made)
  pub over : IfLong ended (¬ Fits (after_all s.writer made) next)

-- They are the calls that were to be made, and this holds; or so far they are, and the next of those did not fit. There is no damage.
abbrev pub Makes : Type 0 → List WriterCall → List WriterCall → WriterCall → Option CopyFault → Type 0
Makes P cs made next None = (made ≡ cs) × P
Makes P cs made next (Some TooLong) = (others : List WriterCall) × (cs ≡ made ++ next ∷ others)
Makes P cs made next (Some Damage) = ⊥
Makes P cs made next (Some other) = ⊤

-- The same, where these come next, seen with n more in each number.
abbrev pub Matches : ℕ → List WriterCall → List WriterCall → WriterCall → List PlainItem → State → Option CopyFault → Type 0
Matches n cs made next behind t ended = Makes (Coming n t.files t.cursor behind) cs made next ended

-- Those that were made are these calls, or the first of them, before one that did not fit, or before the folder or memory failed.
abbrev pub IsPart : List WriterCall → List WriterCall → WriterCall → Option CopyFault → Type 0
IsPart cs made next None = made ≡ cs
IsPart cs made next (Some TooLong) = (others : List WriterCall) × (cs ≡ made ++ next ∷ others)
IsPart cs made next (Some Damage) = ⊥
IsPart cs made next (Some other) = (others : List WriterCall) × (cs ≡ made ++ others)

-- The writer is called so, and nothing is read.
pub record Sent (cs : List WriterCall) (s t : State) (ended : Option CopyFault) : Type 0 where
  pub made : List WriterCall
  pub next : WriterCall
  pub run : Run made next s t ended
  pub same_cursor : t.cursor ≡ s.cursor
  pub part : IsPart cs made next ended
