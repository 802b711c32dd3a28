-- A reader of notes, and what comes next.
use Rattle.std.specs.Prelude.{◌≡◌, ◌<◌, ◌≤◌, ◌⊎◌, ⊤, ℕ, zero, suc, ◌+◌, ◌-◌, ◌&&◌, ◌||◌, ◌==◌, min, not, Bool, false, List, [], ◌∷◌, ◌++◌, length, take, drop, Option, Some, None, option_map, Result, Ok, Err, String, string_bytes, if◌then◌else◌}
use Rattle.std.specs.Global.{Global}
use Rattle.std.specs.Int.{w32}
use Rattle.std.specs.FinMap as map
use Rattle.std.specs.List.{AllByRecursion}
use Rattle.xa_fields.specs.Reading.{number_at}
use Rattle.xa_fields.specs.Spelling.{u32_bytes}
use Rattle.xa_outside.specs.Folder.{Files, bytes_or_none}
use Rattle.version_notes.specs.Notes.{IsNote, note_at, notes_part}
use Rattle.version_notes.specs.Faults.{IfDamage}
use Rattle.version_notes.specs.declared.place.Place.{Place}
use Rattle.version_notes.specs.declared.parts.Parts.{Parts}
use Rattle.version_notes.specs.declared.fault.NotesFault.{NotesFault}
use Rattle.version_notes.specs.declared.fault.NotesFault.TheVariants.{Damage}

-- A reader: the file's name, how many notes are due, and where it stands, if the file has notes.
pub record PlainReader : Type 0 where
  pub name : List ℕ
  pub due : ℕ
  pub place : Option Place

-- at the first of so many bytes of notes
abbrev pub first_place : ℕ → ℕ → Place
first_place core notes = record { at = core; end = core + notes; used = false }

abbrev pub at_first : List ℕ → Parts → ℕ → PlainReader
at_first name parts versions = record { name = name; due = versions; place = option_map (λ n. first_place parts.core n) parts.notes }

-- ---- what comes next

-- what is left of the notes' bytes
abbrev pub left_of : Place → List ℕ → List ℕ
left_of p file = drop p.at (take p.end file)

-- nothing is left, and some note was not empty
abbrev pub is_done : Place → Bool
is_done p = (p.at == p.end) && p.used

abbrev pub next_from : ℕ → Option Place → List ℕ → Option (Option (List ℕ))
next_from zero None file = Some None
next_from (suc n) None file = Some (Some [])
next_from zero (Some p) file = if is_done p then Some None else None
next_from (suc n) (Some p) file = option_map (λ found. Some found.0) (note_at (left_of p file))

-- the note that comes next in a file of these bytes, or that none comes any more; nothing where the file is damaged
abbrev pub next_of : PlainReader → List ℕ → Option (Option (List ℕ))
next_of r file = next_from r.due r.place file

abbrev pub IsSettledFrom : ℕ → Option Place → Type 0
IsSettledFrom due None = ⊤
IsSettledFrom zero (Some p) = ⊤
IsSettledFrom (suc n) (Some p) = ⊥

-- the file has no notes, or the last one was given
abbrev pub IsSettled : PlainReader → Type 0
IsSettled r = IsSettledFrom r.due r.place

-- ---- behind a note

abbrev pub place_behind : Place → List ℕ → Place
place_behind p note = record { at = p.at + (4 + length note); end = p.end; used = p.used || not (length note == 0) }

abbrev pub behind : PlainReader → List ℕ → PlainReader
behind r note = record { name = r.name; due = r.due - 1; place = option_map (λ p. place_behind p note) r.place }

-- ---- what is read

abbrev pub read_from : Option Place → Option (List ℕ) → ℕ
read_from None found = 0
read_from (Some p) None = 0
read_from (Some p) (Some note) = 4 + length note

-- how many bytes are read for what is found
abbrev pub read_for : PlainReader → Option (List ℕ) → ℕ
read_for r found = read_from r.place found

abbrev pub most_from : ℕ → Option Place → ℕ
most_from due None = 0
most_from zero (Some p) = 0
most_from (suc n) (Some p) = min 1028 (p.end - p.at)

-- how many bytes are read at most, whatever the file is
abbrev pub most_read : PlainReader → ℕ
most_read r = most_from r.due r.place

-- ---- what a call answers

abbrev pub TellsNext : Result (Option (String Global)) NotesFault → Option (Option (List ℕ)) → Type 0
TellsNext (Ok found) next = next ≡ Some (option_map string_bytes found)
TellsNext (Err e) next = IfDamage e (next ≡ None)

-- exactly what comes next, or damage
abbrev pub IsNext : Result (Option (String Global)) NotesFault → Option (Option (List ℕ)) → Type 0
IsNext (Ok found) next = next ≡ Some (option_map string_bytes found)
IsNext (Err e) next = (e ≡ Damage) × (next ≡ None)

-- behind the note that was given, and else where it stood
abbrev pub Moves : PlainReader → Result (Option (String Global)) NotesFault → PlainReader → Type 0
Moves old (Ok None) new = (old.due ≡ 0) × (new ≡ old)
Moves old (Ok (Some note)) new = (0 < old.due) × IsNote (string_bytes note) × (new ≡ behind old (string_bytes note))
Moves old (Err e) new = new ≡ old

-- ---- what the parts of a call tell

abbrev pub file_of : Files → List ℕ → List ℕ
file_of files name = bytes_or_none (map.get files name)

-- so many bytes at the front of the piece, and damage where it has fewer
abbrev pub TellsBytes : {T : Type 0} → ℕ → List ℕ → List ℕ → Result T NotesFault → Type 0
TellsBytes n piece bytes (Ok x) = bytes ≡ take n piece
TellsBytes n piece bytes (Err e) = IfDamage e (length piece < n)

-- the length of the note at the front of the piece, and its four bytes
abbrev pub TellsSize : List ℕ → Result ℕ NotesFault → Type 0
TellsSize piece (Ok n) = (number_at w32 piece ≡ Some (n, drop 4 piece)) × (take 4 piece ≡ u32_bytes n)
TellsSize piece (Err e) = IfDamage e (note_at piece ≡ None)

-- the note at the front of the piece
abbrev pub TellsNote : List ℕ → Result (String Global) NotesFault → Type 0
TellsNote piece (Ok note) = note_at piece ≡ Some (string_bytes note, drop (4 + length (string_bytes note)) piece)
TellsNote piece (Err e) = IfDamage e (note_at piece ≡ None)

-- the note of these bytes
abbrev pub TellsText : List ℕ → Result (String Global) NotesFault → Type 0
TellsText bytes (Ok note) = (string_bytes note ≡ bytes) × IsNote bytes
TellsText bytes (Err e) = IfDamage e (¬ IsNote bytes)

-- the note of so many bytes at the front of the piece
abbrev pub TellsFront : ℕ → List ℕ → Result (String Global) NotesFault → Type 0
TellsFront n piece (Ok note) = (string_bytes note ≡ take n piece) × (n ≤ length piece)
TellsFront n piece (Err e) = IfDamage e ((length piece < n) ⊎ ¬ IsNote (take n piece))

-- ---- all notes

-- in a file of these bytes these notes come, one after another, and then none
abbrev pub Comes : PlainReader → List ℕ → List (List ℕ) → Type 0
Comes r file [] = next_of r file ≡ Some None
Comes r file (note ∷ notes) = (next_of r file ≡ Some (Some note)) × Comes (behind r note) file notes

-- there are so many notes, and they stand behind the core
pub record AreBehind (parts : Parts) (versions : ℕ) (file : List ℕ) (notes : List (List ℕ)) : Type 0 where
  pub count : length notes ≡ versions
  pub each : AllByRecursion IsNote notes
  pub bytes : file ≡ take parts.core file ++ notes_part notes
