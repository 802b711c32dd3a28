-- What comes of some versions of an archive that go into another.
use Rattle.std.specs.Prelude.{◌≡◌, ◌⊎◌, ◌≤◌, ℕ, ◌+◌, ◌-◌, List, ◌++◌, length, Option, Some, None, Result, option_map, ⊤}
use Rattle.std.specs.List.{AllByRecursion}
use Rattle.xa_outside.specs.Folder.{Files, committed}
use Rattle.xa_outside.specs.Numbers.{Numbers}
use Rattle.key_spec.specs.Data.{PlainRule}
use Rattle.keyed_tree.specs.Data.{PlainKeyed}
use Rattle.archive_file.specs.Sound.{SoundAs}
use Rattle.record_cursor.specs.Moves.{IsHeaderOf, TellsFront}
use Rattle.record_cursor.specs.View.{PlainHeader, header_view}
use Rattle.record_format.specs.Files.{FileOf}
use Rattle.record_format.specs.declared.limits.TheConstants.{LONGEST}
use Rattle.archive_cut.specs.Cut.{Appended, IsSlice, Overfull}
use Rattle.archive_cut.specs.Sliced.{items}
use Rattle.archive_cut.specs.declared.fault.CutFault.{CutFault}
use Rattle.archive_cut.specs.declared.fault.CutFault.TheVariants.{Damage, Folder, TooLong, Memory}
use Rattle.version_notes.specs.Notes.{IsNote, notes_part}
use Rattle.version_notes.specs.Reader.{at_first, file_of}
use Rattle.version_notes.specs.Reading.{notes_from}
use Rattle.version_notes.specs.declared.parts.Parts.{Parts}
use Rattle.xarch_words.specs.Refusal.{archive, damaged, limit, PlainFault, refused, folder_fault, memory}
use Rattle.xarch_words.specs.declared.fault.Fault.{Fault}
use Rattle.xarch_parts.specs.Inputs.{size_in}
use Rattle.xarch_parts.specs.Noted.{notes_bytes}
use Rattle.xarch_parts.specs.declared.front.Front.{Front}
use Rattle.xarch_meanings.specs.Cut.{cut_input, noted_items}
use Rattle.xarch_meanings.specs.Meanings.{IsLimited}
use Rattle.xarch_copies.specs.Extending.{Extends}
use Rattle.xarch_copies.specs.Making as making
use Rattle.xarch_copies.specs.Making.{Asks, Fails, StandsBefore, behind_front, front_read}

-- ---- what is read first

-- This stands in front of the archive of this name, which has the versions from i to j.
pub record IsFound (name : List ℕ) (i j : ℕ) (files : Option Files) (front : Front) : Type 0 where
  pub before : StandsBefore files name front
  pub from : 1 ≤ i
  pub most : j ≤ (header_view front.header).versions

-- What a command reads first that cuts the versions from i to j out of an archive: where it finds them, no more than what stands in front, and 16 bytes.
abbrev pub Fronts : {S : Type 0} → (S → Option Files) → (S → Option (List ℕ)) → (S → Numbers) → (S → ℕ) → List ℕ → List ℕ → ℕ → ℕ → S → S → Result Front Fault → Type 0
Fronts files draft numbers faults name new i j old now result =
    Asks files draft numbers faults (size_in (files old) name + 16) front_read (λ told. cut_input told name new i j) (IsFound name i j) (λ front. 16 + (header_view front.header).first) old now result

-- ---- the records

-- the fault of a cut, as it is told of the archive of this name
abbrev pub IsToldAs : List ℕ → CutFault → PlainFault → Type 0
IsToldAs name Damage fault = (fault ≡ refused (damaged name)) ⊎ (fault ≡ memory)
IsToldAs name TooLong fault = fault ≡ refused (limit archive LONGEST)
IsToldAs name Folder fault = fault ≡ folder_fault
IsToldAs name Memory fault = fault ≡ memory

-- the bytes behind which its notes stand are no sound archive
abbrev pub IsUnsound : Option Files → List ℕ → PlainHeader → Type 0
IsUnsound files name h = (front : List ℕ) (rules : List PlainRule) (vs : List PlainKeyed) → TellsFront files name h.length front → IsHeaderOf h front → ¬ SoundAs rules vs front

-- if they are, no file can hold its versions from i to j
abbrev pub AreTooLong : Option Files → List ℕ → PlainHeader → ℕ → ℕ → Type 0
AreTooLong files name h i j = (front : List ℕ) (rules : List PlainRule) (vs : List PlainKeyed) → TellsFront files name h.length front → IsHeaderOf h front → SoundAs rules vs front → (bytes : List ℕ) → ¬ FileOf rules (items i j vs) bytes

-- why no versions were cut out of its records
abbrev pub RecordsEnd : Option Files → List ℕ → PlainHeader → ℕ → ℕ → PlainFault → Type 0
RecordsEnd files name h i j (refused q) = ((q ≡ damaged name) × IsUnsound files name h) ⊎ ((q ≡ limit archive LONGEST) × AreTooLong files name h i j)
RecordsEnd files name h i j other = ⊤

-- The records of the versions from i to j went into an empty draft.
pub record Cuts {S : Type 0} (files : S → Option Files) (draft : S → Option (List ℕ)) (numbers : S → Numbers) (faults : S → ℕ)
    (name : List ℕ) (h : PlainHeader) (i j : ℕ) (old now : S) : Type 0 where
  pub extends : Extends files draft numbers faults (h.length - h.first) old now
  pub appended : Appended h name i j (files old) (draft old) (draft now)

-- where the new file would be too long, the draft is as full as it can be
abbrev pub IsFull : PlainHeader → ℕ → ℕ → Option (List ℕ) → Type 0
IsFull h i j draft = (b : ℕ) → h.length + 12 ≤ b → Overfull b h.rules i j draft

-- They did not.
pub record Uncut {S : Type 0} (files : S → Option Files) (draft : S → Option (List ℕ)) (numbers : S → Numbers) (faults : S → ℕ)
    (name : List ℕ) (h : PlainHeader) (i j : ℕ) (old now : S) (fault : PlainFault) : Type 0 where
  pub fails : Fails files draft numbers faults (h.length - h.first) (RecordsEnd (files old) name h i j) old now fault
  pub fills : IsLimited (Some fault) → IsFull h i j (draft now)

-- ---- the notes

-- where it was refused, no notes are read of the file
abbrev pub NotesEnd : Option Files → List ℕ → Parts → ℕ → PlainFault → Type 0
NotesEnd files name parts versions (refused q) = (q ≡ damaged name) × ((told : Files) → files ≡ Some told → notes_from (at_first name parts versions) (file_of told name) ≡ None)
NotesEnd files name parts versions other = ⊤

-- Some notes of the file were not appended.
abbrev pub Unnoted : {S : Type 0} → (S → Option Files) → (S → Option (List ℕ)) → (S → Numbers) → (S → ℕ) → List ℕ → Parts → ℕ → S → S → PlainFault → Type 0
Unnoted files draft numbers faults name parts versions old now fault = Fails files draft numbers faults (notes_bytes parts.notes) (NotesEnd (files old) name parts versions) old now fault

-- ---- the new archive

-- A file came under the new name by way of the draft, where both are told: that of the versions from i to j, and behind it what stands behind a file with
-- their notes.
pub record Comes (files : Option Files) (draft : Option (List ℕ)) (name new : List ℕ) (front : Front) (i j : ℕ) (after : Option Files) : Type 0 where
  pub core : List ℕ
  pub notes : List (List ℕ)
  pub slice : IsSlice (header_view front.header) name i j files core
  pub many : length notes ≡ j + 1 - i
  pub each : AllByRecursion IsNote notes
  pub given : (told : Files) (all : List (List ℕ)) → files ≡ Some told → notes_from (at_first name front.parts (header_view front.header).versions) (file_of told name) ≡ Some all → notes ≡ noted_items i j all
  pub stored : after ≡ committed files (option_map (λ _. core ++ notes_part notes) draft) new

-- with what this ends
abbrev pub CutEnds : Option Files → Option (List ℕ) → List ℕ → List ℕ → Front → ℕ → ℕ → Option Files → Option PlainFault → Type 0
CutEnds files draft name new front i j after None = Comes files draft name new front i j after
CutEnds files draft name new front i j after (Some fault) = RecordsEnd files name (header_view front.header) i j fault ⊎ NotesEnd files name front.parts (header_view front.header).versions fault

-- What is done to the folder for this.
abbrev pub Makes : {S : Type 0} → (S → Option Files) → (S → Option (List ℕ)) → (S → Numbers) → (S → ℕ) → List ℕ → List ℕ → Front → ℕ → ℕ → S → S → Option PlainFault → Type 0
Makes files draft numbers faults name new front i j old now ended =
    making.Makes files draft numbers faults (behind_front front) (CutEnds (files old) (draft old) name new front i j) (IsFull (header_view front.header) i j) old now ended
