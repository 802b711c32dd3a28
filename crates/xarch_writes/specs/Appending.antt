-- What is appended to a draft, while files stay.
use Rattle.std.specs.Prelude.{◌≡◌, ◌≤◌, ⊤, ℕ, List, [], ◌∷◌, ◌++◌, length, Option, Some, None, option_map}
use Rattle.std.specs.List.{AllByRecursion}
use Rattle.xa_outside.specs.Folder.{Files}
use Rattle.xa_outside.specs.Numbers.{Numbers, PullsAndDrafts}
use Rattle.version_notes.specs.Notes.{IsNote, notes_part}
use Rattle.version_notes.specs.Reader.{at_first, file_of}
use Rattle.version_notes.specs.Reading.{notes_from}
use Rattle.version_notes.specs.declared.parts.Parts.{Parts}
use Rattle.xarch_words.specs.Refusal.{damaged, PlainFault, refused}
use Rattle.xarch_parts.specs.Ends.{IsOfFolder}

-- The folder is read from and its draft grows, in turn: at most so many bytes are pulled.
pub record Grows {S : Type 0} (files : S → Option Files) (draft : S → Option (List ℕ)) (numbers : S → Numbers) (faults : S → ℕ)
    (most : ℕ) (old new : S) (ended : Option PlainFault) : Type 0 where
  pub same_files : files new ≡ files old
  pub bytes : List ℕ
  pub grown : draft new ≡ option_map (λ d. d ++ bytes) (draft old)
  pub counted : PullsAndDrafts most (numbers old) (numbers new)
  pub later : faults old ≤ faults new
  pub cause : IsOfFolder (faults old) (faults new) ended

-- The draft gained what stands behind a file with so many notes and one more. Where files are told, these are the notes that are read of the file.
pub record GainsNotes (files : Option Files) (name : List ℕ) (parts : Parts) (versions : ℕ) (note : List ℕ) (draft now : Option (List ℕ)) : Type 0 where
  pub notes : List (List ℕ)
  pub count : length notes ≡ versions
  pub each : AllByRecursion IsNote notes
  pub given : (told : Files) → files ≡ Some told → notes_from (at_first name parts versions) (file_of told name) ≡ Some notes
  pub gains : now ≡ option_map (λ d. d ++ notes_part (notes ++ note ∷ [])) draft

-- where it was refused, the archive of this name is damaged, since no notes are read of its file
abbrev pub NotesEnd : Files → List ℕ → Parts → ℕ → Option PlainFault → Type 0
NotesEnd files name parts versions (Some (refused q)) = (q ≡ damaged name) × (notes_from (at_first name parts versions) (file_of files name) ≡ None)
NotesEnd files name parts versions other = ⊤
