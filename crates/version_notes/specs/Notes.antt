-- Notes, and the bytes that keep them behind a file.
use Rattle.std.specs.Prelude.{ℕ, ◌&&◌, ◌==◌, ◌≤◌, Bool, List, [], ◌++◌, length, replicate, Some, None, nat_le, IsTrue, if◌then◌else◌}
use Rattle.std.specs.List.{flat_map, list_all, AllByRecursion}
use Rattle.std.specs.Str.{bytes_eq}
use Rattle.xa_fields.specs.Spelling.{text_bytes, u64_bytes, IsText}
use Rattle.xa_fields.specs.Reading.{◌>>=◌, Reader, text_at, only_at}
use Rattle.version_notes.specs.declared.limits.TheConstants.{LONGEST_NOTE}
use Rattle.record_parts.specs.declared.limits.TheConstants.{MOST_VERSIONS}

-- no byte is below 20 hexadecimal
abbrev pub is_printed : List ℕ → Bool
is_printed text = list_all (λ byte. nat_le 32 byte) text

-- at most 1,024 bytes, none of them below 20 hexadecimal
abbrev pub is_note : List ℕ → Bool
is_note text = nat_le (length text) LONGEST_NOTE && is_printed text

abbrev pub IsNote : List ℕ → Type 0
IsNote note = IsText note × IsTrue (is_note note)

-- so many notes at most
abbrev pub most : ℕ
most = MOST_VERSIONS

-- the notes of an archive's versions
pub record AreNotes (notes : List (List ℕ)) : Type 0 where
  pub each : AllByRecursion IsNote notes
  pub few : length notes ≤ most

-- ---- their bytes

abbrev pub are_empty : List (List ℕ) → Bool
are_empty notes = list_all (λ note. length note == 0) notes

-- one behind another, each with its length
abbrev pub texts : List (List ℕ) → List ℕ
texts notes = flat_map text_bytes notes

-- what the last eight bytes of a file are that has notes
abbrev pub mark : List ℕ
mark = replicate 8 255

-- what ends a part of so many bytes of notes
abbrev pub ending : ℕ → List ℕ
ending size = u64_bytes size ++ mark

-- what stands behind a file: nothing where all notes are empty, and else the notes, the number of their bytes, and the mark
abbrev pub notes_part : List (List ℕ) → List ℕ
notes_part notes = if are_empty notes then [] else texts notes ++ ending (length (texts notes))

-- ---- reading

-- the note at the front of some bytes, which are its spelling and what is behind it
abbrev pub note_at : Reader (List ℕ)
note_at bytes = only_at is_note text_at bytes >>= λ found. if bytes_eq (text_bytes found.0 ++ found.1) bytes then Some found else None
