-- What judging a file answers.
use Rattle.std.specs.Prelude.{◌≡◌, ◌≤◌, ℕ, List, length, Some, None, Result, Err, IfOk, IfErr}
use Rattle.key_spec.specs.Data.{PlainRule}
use Rattle.keyed_tree.specs.Data.{PlainKeyed}
use Rattle.archive_tree.specs.Data.{PlainArchive}
use Rattle.xa_outside.specs.Causes.{Rose}
use Rattle.xa_outside.specs.Folder.{Files, front_of}
use Rattle.xa_outside.specs.Numbers.{PullsAtMost}
use Rattle.archive_file.specs.Sound.{Sound, SoundAs}
use Rattle.record_cursor.specs.Faults.{IfDamage}
use Rattle.record_cursor.specs.Moves.{TellsFront}
use Rattle.record_cursor.specs.Steps.{fault_of, IsCause}
use Rattle.record_cursor.specs.declared.fault.CursorFault.{CursorFault}
use Rattle.node_judge.specs.InPlace.{LiesSound}
use Rattle.node_walk.specs.Nodes.{FolderSeen}
use Rattle.archive_check.specs.declared.fault.CheckFault.{CheckFault}
use Rattle.archive_check.specs.declared.fault.CheckFault.TheVariants.{Damage, Folder}

-- an archive of so many versions lies there, which is sound by some rules
pub record SoundHere (n : ℕ) (bytes : List ℕ) : Type 0 where
  pub rules : List PlainRule
  pub archive : PlainArchive
  pub count : archive.n ≡ n
  pub lies : LiesSound rules archive bytes

-- The header and the nodes of the first bytes of a file were judged, so many. The folder is only read, each byte at most once.
-- Where files are told, a sound archive of so many versions lies there, and damage is where none does.
pub record PartsJudged (name : List ℕ) (size : ℕ) (s t : FolderSeen) (r : Result ℕ CursorFault) : Type 0 where
  pub same_files : t.files ≡ s.files
  pub same_draft : t.draft ≡ s.draft
  pub later : s.faults ≤ t.faults
  pub cause : IsCause s.faults t.faults (fault_of r)
  pub pulls : PullsAtMost size s.numbers t.numbers
  pub lies : (bytes : List ℕ) → TellsFront s.files name size bytes → IfOk r (λ n. SoundHere n bytes)
  pub found : (bytes : List ℕ) → TellsFront s.files name size bytes → Sound bytes → IfErr r (λ e. IfDamage e ⊥)
  pub short : (files : Files) → s.files ≡ Some files → front_of files name size ≡ None → IfOk r (λ n. ⊥)

-- The first bytes of a file were judged, so many, by reading each of them at most once.
pub record FileJudged (name : List ℕ) (size : ℕ) (s t : FolderSeen) (r : Result ℕ CheckFault) : Type 0 where
  pub same_files : t.files ≡ s.files
  pub same_draft : t.draft ≡ s.draft
  pub later : s.faults ≤ t.faults
  pub cause : r ≡ Err Folder → Rose s.faults t.faults
  pub pulls : PullsAtMost size s.numbers t.numbers
  pub sound : (bytes : List ℕ) → TellsFront s.files name size bytes → IfOk r (λ n. (is : Sound bytes) × (length is.versions ≡ n))
  pub versions : (bytes : List ℕ) → TellsFront s.files name size bytes → (rules : List PlainRule) (vs : List PlainKeyed) → SoundAs rules vs bytes → IfOk r (λ n. n ≡ length vs)
  pub damage : (bytes : List ℕ) → TellsFront s.files name size bytes → r ≡ Err Damage → ¬ (Sound bytes)
  pub short : (files : Files) → s.files ≡ Some files → front_of files name size ≡ None → IfOk r (λ n. ⊥)
