-- What a call does that goes through all notes that are left.
use Rattle.std.specs.Prelude.{◌≡◌, ◌⊎◌, ℕ, ◌||◌, not, true, List, ◌++◌, length, Option, Some, None, IfSome, option_map}
use Rattle.std.specs.List.{AllByRecursion}
use Rattle.xa_outside.specs.Folder.{Files}
use Rattle.version_notes.specs.Notes.{IsNote, are_empty}
use Rattle.version_notes.specs.Reader.{PlainReader, file_of}
use Rattle.version_notes.specs.Reading.{notes_from}
use Rattle.version_notes.specs.Writer.{PlainWriter, after_all, all_appended}

-- The notes that were due went from the reader to the writer, and the draft gained what the writer appends for them. Where files are told, these are the notes
-- that the reader still gave. Where the file has notes, one of them was not empty, or one before them.
pub record Copies (files : Option Files) (r : PlainReader) (before after : PlainWriter) (draft now : Option (List ℕ)) : Type 0 where
  pub notes : List (List ℕ)
  pub count : length notes ≡ r.due
  pub each : AllByRecursion IsNote notes
  pub some : IfSome r.place (λ p. (p.used || not (are_empty notes)) ≡ true)
  pub given : (told : Files) → files ≡ Some told → notes_from r (file_of told r.name) ≡ Some notes
  pub pushed : after ≡ after_all before notes
  pub gains : now ≡ option_map (λ d. d ++ all_appended before notes) draft

-- each note is appended at once, or none is read, where the file has none
abbrev pub IsPrompt : PlainReader → PlainWriter → Type 0
IsPrompt r w = (w.at_once ≡ true) ⊎ (r.place ≡ None)
