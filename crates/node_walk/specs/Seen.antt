-- What a walk goes along: a folder, and the cursor that reads an archive file in it.
use Rattle.std.specs.Prelude.{◌≡◌, ◌≤◌, ℕ, ◌-◌, List, length, drop, Option, Some, None}
use Rattle.std.specs.FinMap as map
use Rattle.xa_outside.specs.Folder.{Files, bytes_or_none}
use Rattle.xa_outside.specs.Numbers.{Numbers, PullsAtMost}
use Rattle.record_cursor.specs.Moves.{TellsFront}
use Rattle.record_cursor.specs.Steps.{IsCause}
use Rattle.record_cursor.specs.View.{PlainCursor}
use Rattle.record_cursor.specs.declared.fault.CursorFault.{CursorFault}

pub record Seen : Type 0 where
  pub files : Option Files
  pub draft : Option (List ℕ)
  pub numbers : Numbers
  pub faults : ℕ
  pub cursor : PlainCursor

-- The folder's files, draft, numbers and count of faults stand first.
abbrev pub seen : {S : Type 0} → (S → Option Files) → (S → Option (List ℕ)) → (S → Numbers) → (S → ℕ) → S → PlainCursor → Seen
seen files draft numbers faults folder cursor = record { files = files folder; draft = draft folder; numbers = numbers folder; faults = faults folder; cursor = cursor }

-- the files are told, and these bytes are the part of the file that is read
abbrev pub Told : Seen → List ℕ → Type 0
Told s bytes = TellsFront s.files s.cursor.name s.cursor.length bytes

-- the file has as many bytes as are to be read
abbrev pub IsWhole : Seen → Files → Type 0
IsWhole s files = s.cursor.length ≤ length (bytes_or_none (map.get files s.cursor.name))

-- what is left of the bytes
abbrev pub at_hand : Seen → List ℕ → List ℕ
at_hand s bytes = drop s.cursor.at bytes

-- how many bytes may be pulled: those by which the cursor moved, and after a fault those that it had left
abbrev pub may_pull : Seen → Seen → Option CursorFault → ℕ
may_pull s t None = t.cursor.at - s.cursor.at
may_pull s t (Some e) = s.cursor.length - s.cursor.at

-- The folder is only read, it fails only where its count rose, and the cursor goes on in its file and no further.
pub record Reads (s t : Seen) (ended : Option CursorFault) : Type 0 where
  pub same_files : t.files ≡ s.files
  pub same_draft : t.draft ≡ s.draft
  pub later : s.faults ≤ t.faults
  pub cause : IsCause s.faults t.faults ended
  pub same_name : t.cursor.name ≡ s.cursor.name
  pub same_length : t.cursor.length ≡ s.cursor.length
  pub onward : s.cursor.at ≤ t.cursor.at
  pub within : t.cursor.at ≤ t.cursor.length
  pub pulls : PullsAtMost (may_pull s t ended) s.numbers t.numbers
