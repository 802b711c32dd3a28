-- What is drafted of an archive.
use Rattle.std.specs.Prelude.{◌≡◌, ◌≤◌, ℕ, List, Option, Result, Ok, Err, OnOk, ⊤}
use Rattle.xa_outside.specs.Causes.{Rose}
use Rattle.xa_outside.specs.Folder.{Drafts, Files}
use Rattle.xa_outside.specs.Numbers.{Numbers}
use Rattle.record_writer.specs.Calls.{AllFit, after_all, all_appended}
use Rattle.record_writer.specs.Data.{PlainWriter, WriterCall}
use Rattle.record_writer.specs.Faults.{IfFolder}
use Rattle.record_writer.specs.declared.fault.WriteFault.{WriteFault}
use Rattle.record_writer.specs.declared.fault.WriteFault.TheVariants.{TooLong, Folder, Memory}

-- The draft grew by some bytes, which are counted, and nothing else of the folder changed. Without a fault this holds of the bytes. The folder's files, draft,
-- numbers and count of faults stand first.
pub record Drafted {S T : Type 0} (files : S → Option Files) (draft : S → Option (List ℕ)) (numbers : S → Numbers) (faults : S → ℕ)
    (old new : S) (whole : List ℕ → Type 0) (result : Result T WriteFault) : Type 0 where
  pub same_files : files new ≡ files old
  pub bytes : List ℕ
  pub drafts : Drafts (draft old) (draft new) (numbers old) (numbers new) bytes
  pub is : OnOk result (whole bytes)
  pub later : faults old ≤ faults new
  pub cause : IfFolder result (Rose (faults old) (faults new))

-- no other fault says anything
abbrev pub IfTooLong : WriteFault → Type 0 → Type 0
IfTooLong TooLong P = P
IfTooLong Folder P = ⊤
IfTooLong Memory P = ⊤

-- without a fault this holds, and where it is too long it does not
abbrev pub OnlyIf : {T : Type 0} → Type 0 → Result T WriteFault → Type 0
OnlyIf P (Ok v) = P
OnlyIf P (Err e) = IfTooLong e (¬ P)

-- The writer was called so, from the first to the last of these calls or to one that failed, and before it held this and afterwards that.
pub record Called {S T : Type 0} (files : S → Option Files) (draft : S → Option (List ℕ)) (numbers : S → Numbers) (faults : S → ℕ)
    (calls : List WriterCall) (old new : S) (before after : PlainWriter) (result : Result T WriteFault) : Type 0 where
  pub drafted : Drafted files draft numbers faults old new (λ bytes. bytes ≡ all_appended before calls) result
  pub holds : OnOk result (after ≡ after_all before calls)
  pub fit : OnlyIf (AllFit before calls) result
