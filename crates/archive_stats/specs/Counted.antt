-- What counting the records of a file does.
use Rattle.std.specs.Prelude.{◌≡◌, ◌≢◌, ℕ, ◌+◌, ◌-◌, ◌≤◌, List, [], ◌∷◌, ◌++◌, length, map, sum_by, Option, Some, None, Result, Ok, IfOk, IsTrue}
use Rattle.std.specs.FinMap as finite
use Rattle.key_spec.specs.Canonical.{canonical}
use Rattle.key_spec.specs.Closed.{closed}
use Rattle.key_spec.specs.Data.{PlainRule}
use Rattle.archive_tree.specs.Data.{PlainArchive}
use Rattle.xa_outside.specs.Folder.{Files, bytes_or_none, front_of}
use Rattle.xa_outside.specs.Numbers.{Numbers, PullsAtMost}
use Rattle.record_parts.specs.Bounds.{deepest}
use Rattle.record_format.specs.Data.{PlainRec}
use Rattle.record_format.specs.Files.{HasFile, file_bytes, weight}
use Rattle.record_format.specs.Nested.{are_nested}
use Rattle.record_cursor.specs.Items.{finish, item_of}
use Rattle.record_cursor.specs.Moves.{TellsFront, Comes}
use Rattle.record_cursor.specs.Places.{finished}
use Rattle.record_cursor.specs.Steps.{fault_of, IsCause, Filled}
use Rattle.record_cursor.specs.View.{PlainCursor}
use Rattle.record_cursor.specs.declared.fault.CursorFault.{CursorFault}
use Rattle.archive_stats.specs.Counts.{PlainCounts, counts, end_bodies}
use Rattle.archive_stats.specs.Tally.{tallied}
use Rattle.archive_stats.specs.View.{counts_view}
use Rattle.archive_stats.specs.declared.counts.Counts.{Counts}

-- what is seen of a folder
pub record Seen : Type 0 where
  pub files : Option Files
  pub draft : Option (List ℕ)
  pub numbers : Numbers
  pub faults : ℕ

-- The folder's files, draft, numbers and count of faults stand first.
abbrev pub seen : {S : Type 0} → (S → Option Files) → (S → Option (List ℕ)) → (S → Numbers) → (S → ℕ) → S → Seen
seen files draft numbers faults folder = record { files = files folder; draft = draft folder; numbers = numbers folder; faults = faults folder }

-- The folder is only read, so many bytes at most, and fails only where its count rose.
pub record Reads (limit : ℕ) (s t : Seen) (ended : Option CursorFault) : Type 0 where
  pub same_files : t.files ≡ s.files
  pub same_draft : t.draft ≡ s.draft
  pub later : s.faults ≤ t.faults
  pub cause : IsCause s.faults t.faults ended
  pub pulls : PullsAtMost limit s.numbers t.numbers

-- these records come next, and behind them the end of the file
abbrev pub RecordsCome : Option Files → PlainCursor → List PlainRec → Type 0
RecordsCome told at rs = Comes told at (map item_of rs ++ finish ∷ [])

-- the bytes that are read for records and for the end behind them
abbrev pub read_by : List PlainRec → ℕ
read_by rs = sum_by weight rs + 8

-- The records that come are added to the counts, and each is read once. There are no counts of a file that has fewer bytes than the cursor was told.
pub record RecordsCounted (before : PlainCounts) (at : PlainCursor) (s t : Seen) (r : Result Counts CursorFault) : Type 0 where
  pub reads : Reads (at.length - at.at) s t (fault_of r)
  pub counts : (rs : List PlainRec) → RecordsCome s.files at rs → Filled r (λ c. counts_view c ≡ tallied before rs)
  pub few : (rs : List PlainRec) → RecordsCome s.files at rs → PullsAtMost (read_by rs) s.numbers t.numbers
  pub whole : (files : Files) → s.files ≡ Some files → at.standing ≢ finished → IfOk r (λ c. at.length ≤ length (bytes_or_none (finite.get files at.name)))

-- the bytes are the file of the archive, which a cursor can read
pub record IsFileOf (rules : List PlainRule) (a : PlainArchive) (bytes : List ℕ) : Type 0 where
  pub specification : closed (canonical rules) ≡ Ok rules
  pub has : HasFile rules a
  pub nested : IsTrue (are_nested deepest a.kids)
  pub spelled : bytes ≡ file_bytes rules a

-- An archive's file is counted, and the bodies of its END records are not read. There is nothing to count in a file that has fewer bytes.
pub record FileCounted (name : List ℕ) (length : ℕ) (s t : Seen) (r : Result Counts CursorFault) : Type 0 where
  pub reads : Reads length s t (fault_of r)
  pub counts : (bytes : List ℕ) (rules : List PlainRule) (a : PlainArchive) → TellsFront s.files name length bytes → IsFileOf rules a bytes → Filled r (λ c. counts_view c ≡ counts rules a)
  pub few : (bytes : List ℕ) (rules : List PlainRule) (a : PlainArchive) → TellsFront s.files name length bytes → IsFileOf rules a bytes → PullsAtMost (length - end_bodies a) s.numbers t.numbers
  pub short : (files : Files) → s.files ≡ Some files → front_of files name length ≡ None → IfOk r (λ c. ⊥)
