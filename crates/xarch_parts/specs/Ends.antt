-- With what fault a command, or a part of it, ends.
use Rattle.std.specs.Prelude.{◌≡◌, ◌≤◌, ℕ, List, Option, Some, None, Result, Ok, Err, ⊤}
use Rattle.xa_outside.specs.Causes.{Rose}
use Rattle.xa_outside.specs.Folder.{Files}
use Rattle.xa_outside.specs.Taken.{Taken, Takes, TakesNone}
use Rattle.xarch_words.specs.Refusal.{Refusal, usage, PlainFault, refused, folder_fault, out_fault, in_fault, memory}
use Rattle.xarch_words.specs.View.{fault_view}
use Rattle.xarch_words.specs.declared.fault.Fault.{Fault}

-- the fault with which a call ended, if any
abbrev pub fault_of : {T : Type 0} → Result T Fault → Option PlainFault
fault_of (Ok _) = None
fault_of (Err f) = Some (fault_view f)

-- Within a command, whose words are one: a refusal, or want of memory.
unfoldable pub IsInside : Option PlainFault → Type 0
IsInside None = ⊤
IsInside (Some (refused usage)) = ⊥
IsInside (Some (refused _)) = ⊤
IsInside (Some memory) = ⊤
IsInside (Some _) = ⊥

-- the same, or a fault of the folder, whose count of faults rose
unfoldable pub IsOfFolder : ℕ → ℕ → Option PlainFault → Type 0
IsOfFolder before now (Some folder_fault) = Rose before now
IsOfFolder before now fault = IsInside fault

-- a fault of the output, whose count of faults rose, and no other
unfoldable pub IsOfOutput : ℕ → ℕ → Option PlainFault → Type 0
IsOfOutput before now None = ⊤
IsOfOutput before now (Some out_fault) = Rose before now
IsOfOutput before now (Some _) = ⊥

-- any fault of a command
unfoldable pub IsOfCommand : ℕ → ℕ → ℕ → ℕ → Option PlainFault → Type 0
IsOfCommand folder_before folder_now out_before out_now (Some out_fault) = Rose out_before out_now
IsOfCommand folder_before folder_now out_before out_now fault = IsOfFolder folder_before folder_now fault

-- any fault but one of the input: one of the folder or of the output comes only where that object's count of faults rose
unfoldable pub HasItsCause : ℕ → ℕ → ℕ → ℕ → Option PlainFault → Type 0
HasItsCause folder_before folder_now out_before out_now (Some folder_fault) = Rose folder_before folder_now
HasItsCause folder_before folder_now out_before out_now (Some out_fault) = Rose out_before out_now
HasItsCause folder_before folder_now out_before out_now (Some in_fault) = ⊥
HasItsCause folder_before folder_now out_before out_now _ = ⊤

-- no count of faults falls, and a fault has its cause
pub record IsCaused (folder_before folder_now out_before out_now : ℕ) (ended : Option PlainFault) : Type 0 where
  pub folder_later : folder_before ≤ folder_now
  pub out_later : out_before ≤ out_now
  pub cause : IsOfCommand folder_before folder_now out_before out_now ended

-- a refusal is the defined one; a fault of the outside says nothing of the definition
unfoldable pub IsDefined : {A : Type 0} → Result A Refusal → PlainFault → Type 0
IsDefined defined (refused r) = defined ≡ Err r
IsDefined defined _ = ⊤

-- the answer is the defined one, or a fault of the outside
abbrev pub Matches : {A T : Type 0} → (T → A) → Result A Refusal → Result T Fault → Type 0
Matches view defined (Ok x) = defined ≡ Ok (view x)
Matches view defined (Err f) = IsDefined defined (fault_view f)

-- the sink gained some bytes
pub record Gained (old new : Taken) : Type 0 where
  pub bytes : List ℕ
  pub takes : Takes old new bytes

-- What the output gained, whatever the folder tells: nothing where the command was refused.
unfoldable pub EndsGained : Option PlainFault → Taken → Taken → Type 0
EndsGained (Some (refused r)) old new = TakesNone old new
EndsGained ended old new = Gained old new

-- where files are told, they are these
abbrev pub TellsOnly : Option Files → Files → Type 0
TellsOnly told files = (after : Files) → told ≡ Some after → after ≡ files
