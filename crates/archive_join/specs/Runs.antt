-- Which calls of the writer a part of the join makes.
use Rattle.std.specs.Prelude.{◌≡◌, ℕ, List, ◌∷◌, ◌++◌, Option, Some, None, ⊤}
use Rattle.record_copy.specs.Faults.{Unless, IfLong, IfWhole}
use Rattle.record_copy.specs.Seen.{Coming}
use Rattle.record_copy.specs.declared.fault.CopyFault.{CopyFault}
use Rattle.record_copy.specs.declared.fault.CopyFault.TheVariants.{TooLong}
use Rattle.record_cursor.specs.Items.{PlainItem}
use Rattle.record_writer.specs.Data.{WriterCall}
use Rattle.record_writer.specs.Calls.{all_appended, after_all, Fits, AllFit}
use Rattle.archive_join.specs.Faults.{plain, SparesFirst, SparesSecond}
use Rattle.archive_join.specs.Passes.{Passes}
use Rattle.archive_join.specs.State.{State}
use Rattle.archive_join.specs.declared.fault.JoinFault.{JoinFault}

-- These calls were made, and all fit, and the bytes are theirs, unless the folder or memory failed; where it ended for want of room, the next did not fit behind them.
pub record Run (made : List WriterCall) (next : WriterCall) (s t : State) (ended : Option CopyFault) : Type 0 where
  pub bytes : List ℕ
  pub passes : Passes bytes s t ended
  pub same : IfWhole ended (bytes ≡ all_appended s.writer made)
  pub fit : AllFit s.writer made
  pub writer : Unless ended (t.writer ≡ after_all s.writer made)
  pub over : IfLong ended (¬ Fits (after_all s.writer made) next)

-- They are the calls that were to be made; or so far they are, and the next of those did not fit.
abbrev pub AreCalls : List WriterCall → List WriterCall → WriterCall → Option CopyFault → Type 0
AreCalls cs made next None = made ≡ cs
AreCalls cs made next (Some TooLong) = (others : List WriterCall) × (cs ≡ made ++ next ∷ others)
AreCalls cs made next (Some other) = ⊤

-- The first archive is undamaged, and without a fault these come next in it.
pub record KeepsFirst (behind : List PlainItem) (t : State) (ended : Option JoinFault) : Type 0 where
  pub undamaged : SparesFirst ended
  pub comes : Unless (plain ended) (Coming 0 t.files t.first behind)

-- The second is, and without a fault these come next in it, seen with n more in each number.
pub record KeepsSecond (n : ℕ) (behind : List PlainItem) (t : State) (ended : Option JoinFault) : Type 0 where
  pub undamaged : SparesSecond ended
  pub comes : Unless (plain ended) (Coming n t.files t.second behind)
