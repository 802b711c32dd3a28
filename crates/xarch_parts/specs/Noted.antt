-- The notes of an archive, as a command reads and appends them.
use Rattle.std.specs.Prelude.{◌≡◌, ◌⊎◌, ◌≤◌, ◌<◌, ◌^◌, ℕ, ◌+◌, ◌-◌, Bool, true, false, List, length, Option, Some, None, IfSome}
use Rattle.std.specs.List.{AllByRecursion}
use Rattle.version_notes.specs.Notes.{IsNote, are_empty, most}
use Rattle.version_notes.specs.declared.parts.Parts.{Parts}
use Rattle.version_notes.specs.declared.fault.NotesFault.{NotesFault}
use Rattle.version_notes.specs.declared.fault.NotesFault.TheVariants.{Damage, Folder, Memory}
use Rattle.xarch_words.specs.Refusal.{damaged, PlainFault, refused, folder_fault, memory}

-- how many bytes the notes have
abbrev pub notes_bytes : Option ℕ → ℕ
notes_bytes None = 0
notes_bytes (Some n) = n

-- Parts of no more than so many bytes, whose notes a reader can be put before.
pub record AreWithin (most : ℕ) (parts : Parts) : Type 0 where
  pub within : parts.core + notes_bytes parts.notes ≤ most
  pub room : IfSome parts.notes (λ n. parts.core + n < 2 ^ 64 - 16)

-- the fault of reading a note, as it is told of the archive of this name
abbrev pub IsOfNotes : List ℕ → NotesFault → PlainFault → Type 0
IsOfNotes name Damage fault = (fault ≡ refused (damaged name)) ⊎ (fault ≡ memory)
IsOfNotes name Folder fault = fault ≡ folder_fault
IsOfNotes name Memory fault = fault ≡ memory

-- Notes that can be appended, at once only where some is not empty.
pub record CanFollow (noted : Bool) (notes : List (List ℕ)) : Type 0 where
  pub few : length notes ≤ most
  pub each : AllByRecursion IsNote notes
  pub some : noted ≡ true → are_empty notes ≡ false
