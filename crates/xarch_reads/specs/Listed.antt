-- What the listing of versions does, and with what fault it ends.
use Rattle.std.specs.Prelude.{◌≡◌, ◌≤◌, ℕ, List, Option, Some, None}
use Rattle.xa_outside.specs.Folder.{Files}
use Rattle.xa_outside.specs.Numbers.{PullsAtMost}
use Rattle.xa_outside.specs.Taken.{Taken, Takes, TakesPrefix}
use Rattle.version_notes.specs.Reader.{PlainReader, file_of}
use Rattle.version_notes.specs.Reading.{all_read, notes_from}
use Rattle.xarch_words.specs.Refusal.{Refusal, damaged, PlainFault, refused}
use Rattle.xarch_parts.specs.Ends.{Gained, IsOfCommand}
use Rattle.xarch_meanings.specs.Versions.{versions_text}
use Rattle.xarch_reads.specs.Written.{WrittenState}

-- the lines of these notes were written
pub record Listed (left : Option (List (List ℕ))) (old new : Taken) : Type 0 where
  pub notes : List (List ℕ)
  pub are : left ≡ Some notes
  pub output : Takes old new (versions_text notes)

-- How it ends where these notes are left, if they can be read: all are listed, the archive of this name is damaged, or a prefix of their lines was written.
abbrev pub ListEnds : List ℕ → Option (List (List ℕ)) → Taken → Taken → Option PlainFault → Type 0
ListEnds name left old new None = Listed left old new
ListEnds name left old new (Some (refused q)) = (q ≡ damaged name) × (left ≡ None)
ListEnds name left old new (Some other) = (notes : List (List ℕ)) → left ≡ Some notes → TakesPrefix old new (versions_text notes)

-- The notes that a reader gives were listed, or it is told why not.
pub record Lists (name : List ℕ) (reader : PlainReader) (s t : WrittenState) (ended : Option PlainFault) : Type 0 where
  pub same_files : t.files ≡ s.files
  pub same_draft : t.draft ≡ s.draft
  pub pulls : PullsAtMost (all_read reader) s.numbers t.numbers
  pub later : s.faults ≤ t.faults
  pub out_later : s.out_faults ≤ t.out_faults
  pub cause : IsOfCommand s.faults t.faults s.out_faults t.out_faults ended
  pub gained : Gained s.taken t.taken
  -- it is refused as damaged, and by nothing else
  pub only : (q : Refusal) → ended ≡ Some (refused q) → q ≡ damaged name
  pub ends : (files : Files) → s.files ≡ Some files → ListEnds name (notes_from reader (file_of files reader.name)) s.taken t.taken ended
