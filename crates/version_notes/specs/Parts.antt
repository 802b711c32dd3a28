-- What the bytes of a file are: those that the notes stand behind, and the notes.
use Rattle.std.specs.Prelude.{◌≡◌, ℕ, ◌+◌, ◌-◌, ◌&&◌, Bool, List, length, take, drop, Option, Some, None, Result, Ok, Err, nat_le, if◌then◌else◌}
use Rattle.std.specs.Int.{w64}
use Rattle.std.specs.Str.{bytes_eq}
use Rattle.xa_fields.specs.Reading.{◌>>=◌, number_at}
use Rattle.version_notes.specs.Notes.{are_empty, texts, mark, ending}
use Rattle.version_notes.specs.Faults.{IfDamaged}
use Rattle.version_notes.specs.declared.parts.Parts.{Parts}
use Rattle.version_notes.specs.declared.fault.PartsFault.{PartsFault}

-- the last so many bytes, or all where there are fewer
abbrev pub last : ℕ → List ℕ → List ℕ
last n bytes = drop (length bytes - n) bytes

-- all bytes but the last so many
abbrev pub all_but : ℕ → List ℕ → List ℕ
all_but n bytes = take (length bytes - n) bytes

-- the last eight bytes are the mark
abbrev pub is_marked : List ℕ → Bool
is_marked bytes = bytes_eq mark (last 8 bytes)

-- the number before the mark, which is how many bytes the notes have: no more than there are, and spelled so
abbrev pub notes_size : List ℕ → Option ℕ
notes_size bytes = number_at w64 (last 8 (all_but 8 bytes)) >>= λ n. if nat_le n.0 (length bytes - 16) && bytes_eq (ending n.0) (last 16 bytes) then Some n.0 else None

-- a file without notes
abbrev pub no_notes : ℕ → Parts
no_notes length = record { core = length; notes = None }

-- so many bytes of notes at the end of a file
abbrev pub with_notes : ℕ → ℕ → Parts
with_notes length n = record { core = length - 16 - n; notes = Some n }

-- the parts of the bytes of a file, none where what stands before the mark cannot be
abbrev pub parts_in : List ℕ → Option Parts
parts_in bytes = if is_marked bytes then (notes_size bytes >>= λ n. Some (with_notes (length bytes) n)) else Some (no_notes (length bytes))

-- The parts of the first so many bytes of a file. A file that has fewer has no mark there.
abbrev pub parts_of_front : ℕ → Option (List ℕ) → Option Parts
parts_of_front length (Some bytes) = parts_in bytes
parts_of_front length None = Some (no_notes length)

abbrev pub TellsParts : Result Parts PartsFault → Option Parts → Type 0
TellsParts (Ok parts) found = found ≡ Some parts
TellsParts (Err e) found = IfDamaged e (found ≡ None)

abbrev pub MakeUp : ℕ → ℕ → Option ℕ → Type 0
MakeUp length core None = core ≡ length
MakeUp length core (Some n) = core + n + 16 ≡ length

-- the parts make up so many bytes
abbrev pub AreParts : ℕ → Parts → Type 0
AreParts length parts = MakeUp length parts.core parts.notes

-- the parts where these notes stand behind these bytes
abbrev pub parts_behind : List ℕ → List (List ℕ) → Parts
parts_behind core notes = record { core = length core; notes = if are_empty notes then None else Some (length (texts notes)) }
