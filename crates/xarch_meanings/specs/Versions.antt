-- What `versions` does: it writes the number of each version of an archive, and its note.
use Rattle.std.specs.Prelude.{◌≡◌, ℕ, ◌+◌, List, [], ◌∷◌, ◌++◌, codes, decimal, Result, Ok}
use Rattle.xa_outside.specs.Folder.{Files}
use Rattle.noted_file.specs.Contents.{Contents}
use Rattle.xarch_words.specs.Refusal.{Refusal}
use Rattle.xarch_parts.specs.Outcome.{Outcome}
use Rattle.key_spec.specs.Data.{PlainRule}
use Rattle.xarch_parts.specs.Inputs.{read_in}
use Rattle.xarch_parts.specs.Readings.{front_in}
use Rattle.xarch_meanings.specs.Meaning.{Meaning, printing_late}

-- a note that is not empty, behind a blank
abbrev pub note_text : List ℕ → List ℕ
note_text [] = []
note_text (b ∷ bs) = codes " " ++ b ∷ bs

-- the line of the version of this number
abbrev pub version_line : ℕ → List ℕ → List ℕ
version_line i note = decimal i ++ note_text note ++ codes "\n"

-- the lines of versions with these notes, of which the first has this number
abbrev pub lines_from : ℕ → List (List ℕ) → List ℕ
lines_from i [] = []
lines_from i (note ∷ notes) = version_line i note ++ lines_from (i + 1) notes

-- versions count from 1
abbrev pub versions_text : List (List ℕ) → List ℕ
versions_text notes = lines_from 1 notes

-- they are written
abbrev pub listed : Files → List (List ℕ) → Result Outcome Refusal
listed files notes = Ok (record { files = files; output = versions_text notes })

-- what is written where the archive holds this
abbrev pub ListsFrom : Files → Contents → Result Outcome Refusal → Type 0
ListsFrom files c r = r ≡ listed files c.notes

-- ---- all that is said of it

-- The rules and the number of versions of the archive, or the first refusal: the archive is there and has parts, and a header stands
-- in front of it.
abbrev pub versions_input : Files → List ℕ → Result (List PlainRule × ℕ) Refusal
versions_input files name = read_in files name (front_in name)

abbrev pub versions_meaning : List ℕ → Meaning
versions_meaning archive = printing_late archive (λ files. versions_input files archive) ListsFrom
