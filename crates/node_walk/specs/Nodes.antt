-- What judging the nodes of a file does.
use Rattle.std.specs.Prelude.{◌≡◌, ◌≤◌, ℕ, ◌-◌, List, length, drop, Option, Some, ⊤, IsTrue, Result, OnOk}
use Rattle.std.specs.FinMap as map
use Rattle.version_set.specs.Members.{upto_pairs}
use Rattle.archive_tree.specs.Data.{PlainNodes, PlainArchive}
use Rattle.xa_fields.specs.Spelling.{u64_bytes}
use Rattle.xa_outside.specs.Folder.{Files, bytes_or_none}
use Rattle.xa_outside.specs.Numbers.{Numbers, PullsAtMost}
use Rattle.record_parts.specs.Bounds.{deepest}
use Rattle.archive_file.specs.Laid.{RowAt}
use Rattle.record_cursor.specs.Moves.{TellsFront}
use Rattle.record_cursor.specs.Steps.{fault_of, IsCause, Filled}
use Rattle.record_cursor.specs.View.{PlainHeader}
use Rattle.record_cursor.specs.declared.fault.CursorFault.{CursorFault}
use Rattle.node_judge.specs.InPlace.{is_sound_archive}
use Rattle.node_walk.specs.Walked.{end_length}

-- what is seen of a folder
pub record FolderSeen : Type 0 where
  pub files : Option Files
  pub draft : Option (List ℕ)
  pub numbers : Numbers
  pub faults : ℕ

-- The folder's files, draft, numbers and count of faults stand first.
abbrev pub folder_seen : {S : Type 0} → (S → Option Files) → (S → Option (List ℕ)) → (S → Numbers) → (S → ℕ) → S → FolderSeen
folder_seen files draft numbers faults folder = record { files = files folder; draft = draft folder; numbers = numbers folder; faults = faults folder }

-- these nodes lie behind the header, under the root of so many versions, with the END behind them and the length of that one's body
abbrev pub NodesLie : PlainHeader → PlainNodes → List ℕ → Type 0
NodesLie h ks bytes = RowAt (upto_pairs h.versions) ks (u64_bytes (end_length (upto_pairs h.versions) ks)) deepest (drop h.first bytes)

-- the archive of so many versions as the header says, with these nodes
abbrev pub archive_with : PlainHeader → PlainNodes → PlainArchive
archive_with h ks = record { n = h.versions; kids = ks }

-- The nodes behind a header were judged. The folder is only read, each byte at most once, and fails only where its count rose.
-- Where the files are told, nodes of a sound archive lie there, and damage is where none do; a file with fewer bytes than the
-- header knows of has none.
pub record NodesJudged (name : List ℕ) (h : PlainHeader) (s t : FolderSeen) (r : Result (Unit {0}) CursorFault) : Type 0 where
  pub same_files : t.files ≡ s.files
  pub same_draft : t.draft ≡ s.draft
  pub later : s.faults ≤ t.faults
  pub cause : IsCause s.faults t.faults (fault_of r)
  pub pulls : PullsAtMost (h.length - h.first) s.numbers t.numbers
  pub lies : (bytes : List ℕ) → TellsFront s.files name h.length bytes → OnOk r ((ks : PlainNodes) × NodesLie h ks bytes × IsTrue (is_sound_archive h.rules (archive_with h ks)))
  pub found : (bytes : List ℕ) → TellsFront s.files name h.length bytes → (ks : PlainNodes) → NodesLie h ks bytes → IsTrue (is_sound_archive h.rules (archive_with h ks)) → Filled r (λ u. ⊤)
  pub whole : (files : Files) → s.files ≡ Some files → OnOk r (h.length ≤ length (bytes_or_none (map.get files name)))
