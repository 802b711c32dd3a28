-- What the writing of a version does.
use Rattle.std.specs.Prelude.{◌≡◌, ℕ, ◌+◌, ◌≤◌, List, Option, Some, None, ⊤}
use Rattle.key_spec.specs.Data.{PlainRule}
use Rattle.keyed_tree.specs.Data.{PlainKeyed}
use Rattle.keyed_print.specs.KeyedText.{keyed_text}
use Rattle.archive_tree.specs.Data.{PlainArchive}
use Rattle.archive_tree.specs.Stands.{ArchiveOf, version_of}
use Rattle.archive_file.specs.Sound.{SoundAs}
use Rattle.record_format.specs.Fronts.{fixed}
use Rattle.record_format.specs.Seen.{steps_for}
use Rattle.record_cursor.specs.Moves.{TellsFront}
use Rattle.xa_outside.specs.Numbers.{PullsAtMost}
use Rattle.xa_outside.specs.Taken.{Takes, TakesNone}
use Rattle.file_get.specs.State.{State}
use Rattle.file_get.specs.Walks.{Prefixed}
use Rattle.file_get.specs.Searched.{bytes_read}
use Rattle.file_get.specs.Told.{IsCaused, IsSound, Judges, RefusesShort, Unless, is_version}
use Rattle.file_get.specs.declared.fault.GetFault.{GetFault}
use Rattle.file_get.specs.declared.fault.GetFault.TheVariants.{NoVersion}

-- the header counts no such version, or none stands there
abbrev pub IsUncounted : ℕ → Option ℕ → Type 0
IsUncounted i None = ⊤
IsUncounted i (Some n) = ¬ is_version i n

-- at most so many bytes are pulled for a version, and fewer for one that the archive does not have
abbrev pub Few : ℕ → PlainArchive → State → State → Type 0
Few i a s t = (is_version i a.n → PullsAtMost (22 + bytes_read a i) s.numbers t.numbers) × (¬ is_version i a.n → PullsAtMost 22 s.numbers t.numbers)

-- The version was written, or it is said why not: whatever the file is, where it is told, and where it is sound.
pub record Written (i : ℕ) (name : List ℕ) (size : ℕ) (s t : State) (ended : Option GetFault) : Type 0 where
  pub same_files : t.files ≡ s.files
  pub same_draft : t.draft ≡ s.draft
  pub later : s.faults ≤ t.faults
  pub out_later : s.out_faults ≤ t.out_faults
  pub cause : IsCaused s.faults t.faults s.out_faults t.out_faults ended
  pub pulls : PullsAtMost size s.numbers t.numbers
  pub gained : (bytes : List ℕ) × Takes s.taken t.taken bytes
  pub nothing : (n : ℕ) → ended ≡ Some (NoVersion n) → TakesNone s.taken t.taken
  pub short : RefusesShort s.files name size ended
  pub judges : (bytes : List ℕ) → TellsFront s.files name size bytes → Judges i (fixed bytes) ended
  pub uncounted : (bytes : List ℕ) → TellsFront s.files name size bytes → IsUncounted i (fixed bytes) → TakesNone s.taken t.taken
  pub undamaged : (bytes : List ℕ) (rules : List PlainRule) (vs : List PlainKeyed) → TellsFront s.files name size bytes → SoundAs rules vs bytes → IsSound ended
  pub text : (bytes : List ℕ) (rules : List PlainRule) (vs : List PlainKeyed) (k : PlainKeyed) → TellsFront s.files name size bytes → SoundAs rules vs bytes → version_of vs i ≡ Some k → Prefixed s.taken t.taken ended (keyed_text k)
  pub few : (bytes : List ℕ) (rules : List PlainRule) (vs : List PlainKeyed) (a : PlainArchive) → TellsFront s.files name size bytes → SoundAs rules vs bytes → ArchiveOf vs a → Few i a s t
  pub steps : (bytes : List ℕ) (rules : List PlainRule) (vs : List PlainKeyed) (a : PlainArchive) → TellsFront s.files name size bytes → SoundAs rules vs bytes → ArchiveOf vs a → t.steps ≤ s.steps + steps_for a i
  pub exact : (bytes : List ℕ) (rules : List PlainRule) (vs : List PlainKeyed) (a : PlainArchive) → TellsFront s.files name size bytes → SoundAs rules vs bytes → ArchiveOf vs a → Unless ended (t.steps ≡ s.steps + steps_for a i)
