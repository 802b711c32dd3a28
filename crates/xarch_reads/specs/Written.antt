-- What the writing of a version does, and with what fault it ends.
use Rattle.std.specs.Prelude.{◌≡◌, ◌⊎◌, ℕ, ◌+◌, ◌≤◌, List, Option, Some}
use Rattle.xa_outside.specs.Folder.{Files}
use Rattle.xa_outside.specs.Numbers.{Numbers, PullsAtMost}
use Rattle.xa_outside.specs.Taken.{Taken}
use Rattle.archive_tree.specs.Data.{PlainArchive}
use Rattle.archive_tree.specs.Stands.{ArchiveOf}
use Rattle.file_get.specs.declared.fault.GetFault.{GetFault}
use Rattle.file_get.specs.declared.fault.GetFault.TheVariants.{NoVersion, Damage, Folder, Out, Memory}
use Rattle.noted_file.specs.Contents.{Contents}
use Rattle.xarch_words.specs.Commands.{get}
use Rattle.xarch_words.specs.Refusal.{damaged, no_version, PlainFault, refused, folder_fault, out_fault, memory}
use Rattle.xarch_parts.specs.Allowed.{MayEndLate}
use Rattle.xarch_parts.specs.Archives.{ArchiveIs, CoreIs}
use Rattle.xarch_parts.specs.Ends.{IsOfCommand}
use Rattle.xarch_meanings.specs.Meanings.{GainsBy, MayBe, MayComeLate}
use Rattle.xarch_meanings.specs.Get.{version_bytes}

-- the fault of writing a version, as it is told of the version of that number of the archive of this name
abbrev pub IsWrittenAs : List ℕ → ℕ → GetFault → PlainFault → Type 0
IsWrittenAs name i (NoVersion n) fault = fault ≡ refused (no_version i n)
IsWrittenAs name i Damage fault = (fault ≡ refused (damaged name)) ⊎ (fault ≡ memory)
IsWrittenAs name i Folder fault = fault ≡ folder_fault
IsWrittenAs name i Out fault = fault ≡ out_fault
IsWrittenAs name i Memory fault = fault ≡ memory

-- what a folder and an output show
pub record WrittenState : Type 0 where
  pub files : Option Files
  pub draft : Option (List ℕ)
  pub numbers : Numbers
  pub faults : ℕ
  pub taken : Taken
  pub out_faults : ℕ

abbrev pub written_state : {S K : Type 0} → (S → Option Files) → (S → Option (List ℕ)) → (S → Numbers) → (S → ℕ) → (K → Taken) → (K → ℕ) → S → K → WrittenState
written_state files draft numbers faults taken out_faults folder out =
    record { files = files folder; draft = draft folder; numbers = numbers folder; faults = faults folder; taken = taken out; out_faults = out_faults out }

-- The version was written, or it is told why not: whatever the file is, and where it is told and has so many bytes before its notes.
pub record Writes (name : List ℕ) (size i : ℕ) (s t : WrittenState) (ended : Option PlainFault) : Type 0 where
  pub same_files : t.files ≡ s.files
  pub same_draft : t.draft ≡ s.draft
  pub pulls : PullsAtMost size s.numbers t.numbers
  pub later : s.faults ≤ t.faults
  pub out_later : s.out_faults ≤ t.out_faults
  pub cause : IsOfCommand s.faults t.faults s.out_faults t.out_faults ended
  pub gained : GainsBy (Some (get name i)) ended s.taken t.taken
  pub may : (files : Files) (core : List ℕ) → s.files ≡ Some files → CoreIs files name size core → MayEndLate (MayComeLate files (Some (get name i))) (MayBe files (get name i)) ended t.files s.taken t.taken
  pub little : (files : Files) (core : List ℕ) (c : Contents) (a : PlainArchive) → s.files ≡ Some files → CoreIs files name size core → ArchiveIs files name c → ArchiveOf c.versions a
      → PullsAtMost (22 + version_bytes a i) s.numbers t.numbers
