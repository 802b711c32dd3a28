-- What comes of the versions of an archive under other keys.
use Rattle.std.specs.Prelude.{◌≡◌, ◌≤◌, ◌++◌, ℕ, List, [], Option, Some, None, Ok, Err, ⊤}
use Rattle.std.specs.FinMap as map
use Rattle.std.specs.List.{AllByRecursion}
use Rattle.xa_outside.specs.Folder.{Files}
use Rattle.xa_outside.specs.Numbers.{Numbers}
use Rattle.jsonml_text.specs.Texts.{AreTexts}
use Rattle.key_spec.specs.Data.{PlainRule}
use Rattle.key_rules.specs.Faults.{PlainKeyFault}
use Rattle.keyed_tree.specs.Data.{PlainKeyed}
use Rattle.keyed_tree.specs.Plain.{plain}
use Rattle.archive_tree.specs.Data.{PlainArchive}
use Rattle.archive_tree.specs.Stands.{ArchiveOf}
use Rattle.record_format.specs.Files.{FileOf}
use Rattle.record_format.specs.Shapes.{IsShaped}
use Rattle.record_format.specs.declared.limits.TheConstants.{LONGEST}
use Rattle.archive_file.specs.KeyedBy.{AreKeyedBy}
use Rattle.archive_file.specs.Sound.{SoundAs}
use Rattle.archive_rekey.specs.Rekeyed.{IsFirstBad, SpellDocuments}
use Rattle.version_notes.specs.Notes.{notes_part}
use Rattle.xarch_words.specs.Commands.{rekey}
use Rattle.xarch_words.specs.Refusal.{archive, Refusal, damaged, key_fault_in, limit, PlainFault, refused}
use Rattle.xarch_parts.specs.Archives.{ArchiveIs, IsDrafted}
use Rattle.xarch_parts.specs.Ends.{IsOfFolder, TellsOnly}
use Rattle.xarch_parts.specs.Folders.{WritesOnly}
use Rattle.xarch_meanings.specs.Meanings.{MayBe}

-- ---- of versions

-- the first version that does not satisfy the rules is told
pub record IsBadTold (rules : List PlainRule) (vs : List PlainKeyed) (q : Refusal) : Type 0 where
  pub number : ℕ
  pub fault : PlainKeyFault
  pub first : IsFirstBad rules vs number fault
  pub is : q ≡ key_fault_in number fault

-- each version spells a document, whose texts are UTF-8
pub record AreRead (vs : List PlainKeyed) : Type 0 where
  pub documents : SpellDocuments vs
  pub texts : AllByRecursion (λ v. AreTexts (plain v)) vs

-- ---- of the archive under other keys

-- what it stands for is keyed by the rules, and it is within the bounds of the format but for lengths and counts
pub record CanBeWritten (rules : List PlainRule) (a : PlainArchive) : Type 0 where
  pub keyed : (us : List PlainKeyed) → ArchiveOf us a → AreKeyedBy rules us
  pub shaped : IsShaped a

-- these bytes are its file
abbrev pub IsSoundFileOf : List PlainRule → PlainArchive → List ℕ → Type 0
IsSoundFileOf rules a bytes = (us : List PlainKeyed) → ArchiveOf us a → SoundAs rules us bytes

-- it is refused, since it has none
pub record IsRefusedLong (rules : List PlainRule) (a : PlainArchive) (q : Refusal) : Type 0 where
  pub is : q ≡ limit archive LONGEST
  pub none : (us : List PlainKeyed) (bytes : List ℕ) → ArchiveOf us a → ¬ FileOf rules us bytes

-- with what the drafting of these bytes ends
abbrev pub DraftEnds : List PlainRule → PlainArchive → List ℕ → Option PlainFault → Type 0
DraftEnds rules a bytes None = IsSoundFileOf rules a bytes
DraftEnds rules a bytes (Some (refused q)) = IsRefusedLong rules a q
DraftEnds rules a bytes (Some other) = ⊤

-- Bytes were drafted, and nothing was behind them or in front. Nothing else of the folder changed, and it ended so. The folder's files, draft, numbers and
-- count of faults stand first.
pub record DraftsArchive {S : Type 0} (files : S → Option Files) (draft : S → Option (List ℕ)) (numbers : S → Numbers) (faults : S → ℕ)
    (rules : List PlainRule) (a : PlainArchive) (old new : S) (ended : Option PlainFault) : Type 0 where
  pub writes : WritesOnly files draft numbers old new None
  pub same_files : files new ≡ files old
  pub bytes : List ℕ
  pub drafted : IsDrafted (draft new) bytes
  pub ends : DraftEnds rules a bytes ended
  pub later : faults old ≤ faults new
  pub cause : IsOfFolder (faults old) (faults new) ended

-- its file and the notes came under the name
pub record IsStored (files : Files) (name : List ℕ) (rules : List PlainRule) (a : PlainArchive) (notes : List (List ℕ)) (after : Option Files) : Type 0 where
  pub bytes : List ℕ
  pub file : IsSoundFileOf rules a bytes
  pub tells : TellsOnly after (map.insert files name (bytes ++ notes_part notes))

-- with what the storing ends
abbrev pub StoreEnds : Files → List ℕ → List PlainRule → PlainArchive → List (List ℕ) → Option Files → Option PlainFault → Type 0
StoreEnds files name rules a notes after None = IsStored files name rules a notes after
StoreEnds files name rules a notes after (Some (refused q)) = IsRefusedLong rules a q
StoreEnds files name rules a notes after (Some other) = ⊤

-- ---- of the archive that is read

-- the file of this name is the archive of these versions under some rules, with these notes
pub record IsOpened (files : Files) (name : List ℕ) (vs : List PlainKeyed) (notes : List (List ℕ)) : Type 0 where
  pub rules : List PlainRule
  pub is : ArchiveIs files name (record { rules = rules; versions = vs; notes = notes })

-- bytes are the sound archive of these versions under some rules
pub record IsSoundOf (vs : List PlainKeyed) (bytes : List ℕ) : Type 0 where
  pub rules : List PlainRule
  pub is : SoundAs rules vs bytes

-- they are none, and the archive of this name is refused
pub record IsNoArchive (name bytes : List ℕ) (q : Refusal) : Type 0 where
  pub unsound : (rules : List PlainRule) (vs : List PlainKeyed) → ¬ SoundAs rules vs bytes
  pub is : q ≡ damaged name

-- Where the archive under the new keys is stored with these notes, or refused as too long, the command may end so.
pub record MayStore (files : Files) (name spec : List ℕ) (rules : List PlainRule) (a : PlainArchive) (notes : List (List ℕ)) : Type 0 where
  pub stored : (bytes : List ℕ) → IsSoundFileOf rules a bytes → MayBe files (rekey name spec) (Ok (record { files = map.insert files name (bytes ++ notes_part notes); output = [] }))
  pub refused : (q : Refusal) → IsRefusedLong rules a q → MayBe files (rekey name spec) (Err q)
