-- When a call of a writer fails, and what it has done to the folder then.
use Rattle.std.specs.Prelude.{◌≡◌, ℕ, ◌≤◌, List, Option, Result, Ok, Err, IfErr, ⊤}
use Rattle.xa_outside.specs.Causes.{Rose}
use Rattle.xa_outside.specs.Folder.{Files, Drafts, DraftsPrefix}
use Rattle.xa_outside.specs.Numbers.{Numbers}
use Rattle.record_writer.specs.declared.fault.WriteFault.{WriteFault}
use Rattle.record_writer.specs.declared.fault.WriteFault.TheVariants.{TooLong, Folder, Memory}

-- TooLong comes exactly where this does not hold, unless there is no memory
abbrev pub TooLongUnless : {T : Type 0} → Type 0 → Result T WriteFault → Type 0
TooLongUnless P (Ok v) = P
TooLongUnless P (Err TooLong) = ¬ P
TooLongUnless P (Err Folder) = P
TooLongUnless P (Err Memory) = ⊤

-- The draft has gained the bytes at once, a front of them where the folder failed, and nothing on any other fault.
abbrev pub Gains : {T : Type 0} → Option (List ℕ) → Option (List ℕ) → Numbers → Numbers → List ℕ → Result T WriteFault → Type 0
Gains old new before after bytes (Ok v) = Drafts old new before after bytes
Gains old new before after bytes (Err TooLong) = (new ≡ old) × (after ≡ before)
Gains old new before after bytes (Err Folder) = DraftsPrefix old new before after bytes
Gains old new before after bytes (Err Memory) = (new ≡ old) × (after ≡ before)

-- where the folder failed, its count of faults rose
abbrev pub IfFolder : {T : Type 0} → Result T WriteFault → Type 0 → Type 0
IfFolder (Ok v) P = ⊤
IfFolder (Err TooLong) P = ⊤
IfFolder (Err Folder) P = P
IfFolder (Err Memory) P = ⊤

-- What a call that appends these bytes does to the folder. The folder's files, draft, numbers and count of faults stand first.
pub record Appends {S T : Type 0} (files : S → Option Files) (draft : S → Option (List ℕ)) (numbers : S → Numbers) (faults : S → ℕ)
    (old new : S) (bytes : List ℕ) (result : Result T WriteFault) : Type 0 where
  pub same_files : files new ≡ files old
  pub gains : Gains (draft old) (draft new) (numbers old) (numbers new) bytes result
  pub later : faults old ≤ faults new
  pub cause : IfFolder result (Rose (faults old) (faults new))

-- What is done before anything is appended: where this fits, this holds; TooLong comes exactly where it does not fit.
abbrev pub Prepares : {T : Type 0} → Type 0 → (T → Type 0) → Result T WriteFault → Type 0
Prepares P Q (Ok v) = P × Q v
Prepares P Q (Err TooLong) = ¬ P
Prepares P Q (Err Folder) = ⊥
Prepares P Q (Err Memory) = ⊤

-- What a call answers, where it was prepared so: the folder may fail when the bytes are appended, and another fault stays.
abbrev pub IsSent : {T : Type 0} → Result T WriteFault → Result T WriteFault → Type 0
IsSent (Ok v) result = IfErr result (λ e. e ≡ Folder)
IsSent (Err e) result = result ≡ Err e
