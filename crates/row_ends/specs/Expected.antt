-- What a part of the comparing does.
use Rattle.std.specs.Prelude.{◌≡◌, ◌≢◌, ⊤, ℕ, ◌+◌, ◌-◌, ◌≤◌, Bool, true, false, List, ◌++◌, length, Option, Some, None, Result, Ok, Err, OnOk}
use Rattle.xa_outside.specs.Folder.{Files}
use Rattle.xa_outside.specs.Numbers.{Numbers, PullsAtMost}
use Rattle.record_cursor.specs.Faults.{IfDamage}
use Rattle.record_cursor.specs.Moves.{TellsFront}
use Rattle.record_cursor.specs.Steps.{OnlyReads}
use Rattle.record_cursor.specs.declared.fault.CursorFault.{CursorFault}
use Rattle.row_ends.specs.Rooms.{PlainRoom, place, matches}
use Rattle.row_ends.specs.declared.stop.Stop.{Stop}
use Rattle.row_ends.specs.declared.stop.Stop.TheVariants.{Differs, Fault}

abbrev pub fault_in : Stop → Option CursorFault
fault_in Differs = None
fault_in (Fault e) = Some e

abbrev pub stop_fault : {T : Type 0} → Result T Stop → Option CursorFault
stop_fault (Ok x) = None
stop_fault (Err e) = fault_in e

-- these bytes were found, or others, or the folder failed or memory ran out
abbrev pub IsFound : {T : Type 0} → List ℕ → List ℕ → Result T Stop → Type 0
IsFound expected found (Ok x) = expected ≡ found
IsFound expected found (Err Differs) = expected ≢ found
IsFound expected found (Err (Fault e)) = IfDamage e ⊥

-- nothing may stand in front of these bytes so that all are those of the file, or the folder failed or memory ran out
abbrev pub Refuses : PlainRoom → List ℕ → List ℕ → Stop → Type 0
Refuses before bytes text Differs = (front : List ℕ) → matches before bytes (front ++ text) ≡ false
Refuses before bytes text (Fault e) = IfDamage e ⊥

-- what may stand in front of these bytes is what may stand in front afterwards
abbrev pub Leads : {T : Type 0} → PlainRoom → PlainRoom → List ℕ → List ℕ → Result T Stop → Type 0
Leads before after bytes text (Ok x) = (front : List ℕ) → matches before bytes (front ++ text) ≡ matches after bytes front
Leads before after bytes text (Err e) = Refuses before bytes text e

-- These bytes are expected in front of those that were. The folder is only read, and no more is pulled than was compared.
pub record Expected {S T : Type 0} (files : S → Option Files) (draft : S → Option (List ℕ)) (numbers : S → Numbers) (faults : S → ℕ) (name text : List ℕ) (old new : S) (before after : PlainRoom) (result : Result T Stop) : Type 0 where
  pub reads : OnlyReads files draft faults old new (stop_fault result)
  pub same_low : after.low ≡ before.low
  pub within : before.low ≤ before.at → after.low ≤ after.at
  pub back : after.at ≤ before.at
  pub pulls : PullsAtMost (before.at - after.at) (numbers old) (numbers new)
  pub moved : OnOk result (place after + length text ≡ place before)
  pub leads : (end : ℕ) (bytes : List ℕ) → TellsFront (files old) name end bytes → before.at ≤ end → Leads before after bytes text result

-- nothing stopped the comparing
abbrev pub so_far : Result ⊤ Stop
so_far = Ok tt

-- all bytes are those of the file, or not, or the folder failed or memory ran out
abbrev pub Answers : {T : Type 0} → Bool → Result T Stop → Type 0
Answers same (Ok x) = same ≡ true
Answers same (Err Differs) = same ≡ false
Answers same (Err (Fault e)) = IfDamage e ⊥

-- whether all bytes are those of the file, or the fault
abbrev pub answered : {T : Type 0} → Result T Stop → Result Bool CursorFault
answered (Ok x) = Ok true
answered (Err Differs) = Ok false
answered (Err (Fault e)) = Err e

-- These bytes were compared, in front of those that are pending, with all that are left. The folder is only read, and no more is
-- pulled than there was to compare.
pub record Compared {S T : Type 0} (files : S → Option Files) (draft : S → Option (List ℕ)) (numbers : S → Numbers) (faults : S → ℕ) (name text : List ℕ) (old new : S) (before : PlainRoom) (result : Result T Stop) : Type 0 where
  pub reads : OnlyReads files draft faults old new (stop_fault result)
  pub pulls : PullsAtMost (before.at - before.low) (numbers old) (numbers new)
  pub answers : (end : ℕ) (bytes : List ℕ) → TellsFront (files old) name end bytes → before.at ≤ end → Answers (matches before bytes text) result
