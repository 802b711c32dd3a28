-- The archive that a file holds.
use Rattle.std.specs.Prelude.{◌≡◌, ◌⊎◌, ℕ, List, [], length, take, drop, nat_le, Option, Some, None, Result, Ok, Err, if◌then◌else◌}
use Rattle.std.specs.FinMap as map
use Rattle.xa_outside.specs.Folder.{Files}
use Rattle.record_cursor.specs.View.{PlainHeader}
use Rattle.record_format.specs.Files.{FileOf}
use Rattle.record_format.specs.Fronts.{header_at}
use Rattle.record_format.specs.declared.limits.TheConstants.{LONGEST}
use Rattle.version_notes.specs.Parts.{parts_in}
use Rattle.version_notes.specs.declared.parts.Parts.{Parts}
use Rattle.version_notes.specs.declared.limits.TheConstants.{LONGEST_NOTE}
use Rattle.noted_file.specs.Contents.{Contents}
use Rattle.noted_file.specs.Full.{FullAs}
use Rattle.xarch_words.specs.Refusal.{Refusal, no_file, exists, archive, note, limit, PlainFault, refused}
use Rattle.xarch_parts.specs.Outcome.{Outcome}

-- the file of this name is a sound archive that holds this
pub record ArchiveIs (files : Files) (name : List ℕ) (c : Contents) : Type 0 where
  pub bytes : List ℕ
  pub there : map.get files name ≡ Some bytes
  pub full : FullAs c bytes

-- the file of this name has these parts
pub record PartsAre (files : Files) (name : List ℕ) (parts : Parts) : Type 0 where
  pub bytes : List ℕ
  pub there : map.get files name ≡ Some bytes
  pub are : parts_in bytes ≡ Some parts

-- so many bytes of the file of this name stand before its notes, and are these
pub record CoreIs (files : Files) (name : List ℕ) (size : ℕ) (core : List ℕ) : Type 0 where
  pub bytes : List ℕ
  pub there : map.get files name ≡ Some bytes
  pub parts : Parts
  pub are : parts_in bytes ≡ Some parts
  pub long : parts.core ≡ size
  pub is : core ≡ take size bytes

-- the header stands in front of the file of this name, and knows how many bytes stand before the notes
pub record IsFrontOf (files : Files) (name : List ℕ) (h : PlainHeader) : Type 0 where
  pub core : List ℕ
  pub of : CoreIs files name h.length core
  pub is : header_at core ≡ Some ((h.rules, h.versions), drop h.first core)

-- where the draft is told, it is these bytes
abbrev pub IsDrafted : Option (List ℕ) → List ℕ → Type 0
IsDrafted draft bytes = (told : List ℕ) → draft ≡ Some told → told ≡ bytes

-- if the fault is a refusal, it is this one
abbrev pub IsRefusal : Refusal → PlainFault → Type 0
IsRefusal r fault = (q : Refusal) → fault ≡ refused q → q ≡ r

-- the fault is no refusal
abbrev pub NoRefusal : PlainFault → Type 0
NoRefusal fault = (q : Refusal) → ¬ (fault ≡ refused q)

-- the name has no file yet
abbrev pub free_in : Files → List ℕ → Result Unit Refusal
free_in files name = unless_there name (map.get files name)
  where
    unless_there : List ℕ → Option (List ℕ) → Result Unit Refusal
    unless_there name None = Ok tt
    unless_there name (Some bytes) = Err (exists name)

-- the note is not longer than a note may be
abbrev pub short_note : List ℕ → Result Unit Refusal
short_note text = if nat_le (length text) LONGEST_NOTE then Ok tt else Err (limit note LONGEST_NOTE)

-- A file that holds this comes under the name. It is a sound archive.
pub record Stored (files : Files) (name : List ℕ) (c : Contents) (r : Result Outcome Refusal) : Type 0 where
  pub bytes : List ℕ
  pub full : FullAs c bytes
  pub is : r ≡ Ok (record { files = map.insert files name bytes; output = [] })

-- no file can hold these versions
pub record TooLong (c : Contents) (r : Result Outcome Refusal) : Type 0 where
  pub none : (bytes : List ℕ) → ¬ FileOf c.rules c.versions bytes
  pub is : r ≡ Err (limit archive LONGEST)

-- the archive file that holds this comes under the name, where there is one
abbrev pub Stores : Files → List ℕ → Contents → Result Outcome Refusal → Type 0
Stores files name c r = Stored files name c r ⊎ TooLong c r

-- go on with the value, or stay refused
abbrev pub GoesOn : {A : Type 0} → Result A Refusal → (A → Result Outcome Refusal → Type 0) → Result Outcome Refusal → Type 0
GoesOn (Ok x) P r = P x r
GoesOn (Err e) P r = r ≡ Err e

-- the archive of this name is not there, or it is sound, and then the rest is said of what it holds
pub record Missing (files : Files) (name : List ℕ) (r : Result Outcome Refusal) : Type 0 where
  pub absent : map.get files name ≡ None
  pub is : r ≡ Err (no_file name)

pub record Opened (files : Files) (name : List ℕ) (P : Contents → Result Outcome Refusal → Type 0) (r : Result Outcome Refusal) : Type 0 where
  pub contents : Contents
  pub archive : ArchiveIs files name contents
  pub rest : P contents r

abbrev pub Opens : Files → List ℕ → (Contents → Result Outcome Refusal → Type 0) → Result Outcome Refusal → Type 0
Opens files name P r = Missing files name r ⊎ Opened files name P r
