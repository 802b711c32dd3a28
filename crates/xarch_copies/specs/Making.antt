-- What a command does that makes an archive out of others: what it reads of them first, and with what its making ends.
use Rattle.std.specs.Prelude.{◌≡◌, ℕ, ◌+◌, ◌-◌, List, Option, Some, Result, IfOk}
use Rattle.xa_outside.specs.Folder.{Files}
use Rattle.xa_outside.specs.Numbers.{Numbers, PullsAtMost}
use Rattle.key_spec.specs.Data.{PlainRule}
use Rattle.record_cursor.specs.View.{header_view}
use Rattle.xarch_words.specs.Refusal.{PlainFault, Refusal}
use Rattle.xarch_words.specs.declared.fault.Fault.{Fault}
use Rattle.xarch_parts.specs.Archives.{IsFrontOf, PartsAre}
use Rattle.xarch_parts.specs.Ends.{IsCaused, IsOfFolder, Matches, fault_of}
use Rattle.xarch_parts.specs.Folders.{ReadsOnly, Streams}
use Rattle.xarch_parts.specs.Inputs.{size_in}
use Rattle.xarch_parts.specs.Noted.{AreWithin, notes_bytes}
use Rattle.xarch_parts.specs.declared.front.Front.{Front}
use Rattle.xarch_meanings.specs.Meanings.{IsLimited}
use Rattle.xarch_copies.specs.Extending.{Extends}

-- ---- what is read first

-- the rules and the number of versions that a header gives
abbrev pub front_read : Front → List PlainRule × ℕ
front_read front = ((header_view front.header).rules, (header_view front.header).versions)

-- This stands in front of the archive of this name.
pub record StandsBefore (files : Option Files) (name : List ℕ) (front : Front) : Type 0 where
  pub within : AreWithin (size_in files name) front.parts
  pub are : (told : Files) → files ≡ Some told → PartsAre told name front.parts
  pub stands : (told : Files) → files ≡ Some told → IsFrontOf told name (header_view front.header)

-- how many bytes of it stand behind the header, with the notes
abbrev pub behind_front : Front → ℕ
behind_front front = (header_view front.header).length - (header_view front.header).first + notes_bytes front.parts.notes

-- What was asked was read, or the first refusal came, and no more was read than so many bytes. What was read is as it should be, and was read once.
pub record Asks {S T A : Type 0} (files : S → Option Files) (draft : S → Option (List ℕ)) (numbers : S → Numbers) (faults : S → ℕ)
    (most : ℕ) (view : T → A) (asked : Files → Result A Refusal) (IsRight : Option Files → T → Type 0) (least : T → ℕ) (old now : S) (result : Result T Fault) : Type 0 where
  pub reads : ReadsOnly files draft numbers faults most old now (fault_of result)
  pub told : (told : Files) → files old ≡ Some told → Matches view (asked told) result
  pub found : IfOk result (IsRight (files old))
  pub once : IfOk result (λ x. PullsAtMost (least x) (numbers old) (numbers now))

-- ---- what is made

-- A part of the making was stopped by a fault, for which this holds.
pub record Fails {S : Type 0} (files : S → Option Files) (draft : S → Option (List ℕ)) (numbers : S → Numbers) (faults : S → ℕ)
    (most : ℕ) (Ends : PlainFault → Type 0) (old now : S) (fault : PlainFault) : Type 0 where
  pub extends : Extends files draft numbers faults most old now
  pub cause : IsOfFolder (faults old) (faults now) (Some fault)
  pub ends : Ends fault

-- What is done to the folder for a new archive: how it ends, and what the draft is where it was refused by a limit.
pub record Makes {S : Type 0} (files : S → Option Files) (draft : S → Option (List ℕ)) (numbers : S → Numbers) (faults : S → ℕ)
    (most : ℕ) (Ends : Option Files → Option PlainFault → Type 0) (IsFull : Option (List ℕ) → Type 0) (old now : S) (ended : Option PlainFault) : Type 0 where
  pub streams : Streams files draft numbers most old now ended
  pub caused : (out : ℕ) → IsCaused (faults old) (faults now) out out ended
  pub ends : Ends (files now) ended
  pub fills : IsLimited ended → IsFull (draft now)
