-- Some notes of an archive, as they go from a reader to a writer.
use Rattle.std.specs.Prelude.{◌≡◌, ◌≤◌, ℕ, ◌+◌, ◌-◌, List, ◌++◌, length, take, drop, Option, Some, None, option_map}
use Rattle.std.specs.List.{AllByRecursion}
use Rattle.xa_outside.specs.Causes.{Rose}
use Rattle.xa_outside.specs.Folder.{Files}
use Rattle.xa_outside.specs.Numbers.{Numbers}
use Rattle.version_notes.specs.Faults.{IfDamage, IfFolder}
use Rattle.version_notes.specs.Notes.{IsNote, notes_part}
use Rattle.version_notes.specs.Reader.{PlainReader, file_of}
use Rattle.version_notes.specs.Reading.{all_read, notes_from}
use Rattle.version_notes.specs.Writer.{PlainWriter, after_all, all_appended}
use Rattle.version_notes.specs.declared.fault.NotesFault.{NotesFault}
use Rattle.xarch_copies.specs.Extending.{Extends}

-- The reader gave these notes, one after another. Where files are told, they are the first that it still gave.
pub record Gives (files : Option Files) (start now : PlainReader) (notes : List (List ℕ)) : Type 0 where
  pub same_name : now.name ≡ start.name
  pub due : start.due ≡ length notes + now.due
  pub each : AllByRecursion IsNote notes
  pub fewer : all_read now ≤ all_read start
  pub left : (told : Files) → files ≡ Some told → notes_from start (file_of told start.name) ≡ option_map (λ rest. notes ++ rest) (notes_from now (file_of told start.name))

-- So many notes were read, and nothing else was done with them.
pub record Skips {S : Type 0} (files : S → Option Files) (draft : S → Option (List ℕ)) (numbers : S → Numbers) (faults : S → ℕ)
    (old new : S) (start now : PlainReader) (count : ℕ) : Type 0 where
  pub notes : List (List ℕ)
  pub many : length notes ≡ count
  pub gives : Gives (files old) start now notes
  pub extends : Extends files draft numbers faults (all_read start - all_read now) old new
  pub same_draft : draft new ≡ draft old

-- So many notes were read, and each was pushed before the next was read.
pub record Pushes {S : Type 0} (files : S → Option Files) (draft : S → Option (List ℕ)) (numbers : S → Numbers) (faults : S → ℕ)
    (old new : S) (start now : PlainReader) (before after : PlainWriter) (count : ℕ) : Type 0 where
  pub notes : List (List ℕ)
  pub many : length notes ≡ count
  pub gives : Gives (files old) start now notes
  pub extends : Extends files draft numbers faults (all_read start - all_read now) old new
  pub writer : after ≡ after_all before notes
  pub gains : draft new ≡ option_map (λ d. d ++ all_appended before notes) (draft old)

-- The draft gained what stands behind a file with so many notes. Where files are told, and the reader still gave notes, these are so many of them, behind
-- so many others.
pub record Slices {S : Type 0} (files : S → Option Files) (draft : S → Option (List ℕ)) (numbers : S → Numbers) (faults : S → ℕ)
    (old new : S) (start : PlainReader) (before count : ℕ) : Type 0 where
  pub notes : List (List ℕ)
  pub many : length notes ≡ count
  pub each : AllByRecursion IsNote notes
  pub given : (told : Files) (all : List (List ℕ)) → files old ≡ Some told → notes_from start (file_of told start.name) ≡ Some all → notes ≡ take count (drop before all)
  pub extends : Extends files draft numbers faults (all_read start) old new
  pub gains : draft new ≡ option_map (λ d. d ++ notes_part notes) (draft old)

-- It was stopped by a fault, which is damage only where the reader gives no notes.
pub record Stops {S : Type 0} (files : S → Option Files) (draft : S → Option (List ℕ)) (numbers : S → Numbers) (faults : S → ℕ)
    (old new : S) (start : PlainReader) (fault : NotesFault) : Type 0 where
  pub told : (told : Files) → files old ≡ Some told → IfDamage fault (notes_from start (file_of told start.name) ≡ None)
  pub extends : Extends files draft numbers faults (all_read start) old new
  pub cause : IfFolder fault (Rose (faults old) (faults new))
