-- What comes of a document that goes into an archive.
use Rattle.std.specs.Prelude.{◌≡◌, ◌≢◌, ◌⊎◌, ℕ, ◌+◌, ◌-◌, ◌≤◌, max, List, [], ◌∷◌, ◌++◌, length, Option, Some, None, Result, Ok, Err, ⊤}
use Rattle.std.specs.FinMap as map
use Rattle.xa_outside.specs.Folder.{Files}
use Rattle.xa_outside.specs.Numbers.{Numbers}
use Rattle.key_spec.specs.Data.{PlainRule}
use Rattle.keyed_tree.specs.Data.{PlainKeyed}
use Rattle.archive_tree.specs.Data.{PlainArchive}
use Rattle.archive_tree.specs.Stands.{ArchiveOf}
use Rattle.record_parts.specs.declared.limits.TheConstants.{MOST_VERSIONS}
use Rattle.record_cursor.specs.View.{PlainHeader, header_view}
use Rattle.record_format.specs.Files.{FileOf, header_bytes, largest}
use Rattle.record_format.specs.declared.limits.TheConstants.{LONGEST}
use Rattle.stream_merge.specs.declared.fault.AddFault.{AddFault}
use Rattle.stream_merge.specs.declared.fault.AddFault.TheVariants.{Damage, Folder, Limit, TooLong, Memory}
use Rattle.noted_file.specs.Contents.{Contents, with_version}
use Rattle.noted_file.specs.Full.{FullAs}
use Rattle.xarch_words.specs.Refusal.{archive, versions, Refusal, damaged, limit, PlainFault, refused, folder_fault, memory}
use Rattle.xarch_parts.specs.Archives.{ArchiveIs}
use Rattle.xarch_parts.specs.Ends.{IsDefined, TellsOnly}
use Rattle.xarch_parts.specs.declared.front.Front.{Front}

-- the rules and the number of versions that a header gives, and the bytes of a document
abbrev pub read_view : Front → List ℕ → (List PlainRule × ℕ) × List ℕ
read_view front bytes = (((header_view front.header).rules, (header_view front.header).versions), bytes)

-- the fault of a merge, as it is told of the archive of this name
abbrev pub IsToldAs : List ℕ → AddFault → PlainFault → Type 0
IsToldAs name Damage fault = (fault ≡ refused (damaged name)) ⊎ (fault ≡ memory)
IsToldAs name Folder fault = fault ≡ folder_fault
IsToldAs name Limit fault = fault ≡ refused (limit versions MOST_VERSIONS)
IsToldAs name TooLong fault = fault ≡ refused (limit archive LONGEST)
IsToldAs name Memory fault = fault ≡ memory

-- A file came under the name, which is that of the versions and the new one, with their notes and the new one's, where the archive was sound.
pub record Replaces (files : Files) (name : List ℕ) (new : PlainKeyed) (note : List ℕ) (after : Option Files) : Type 0 where
  pub bytes : List ℕ
  pub tells : TellsOnly after (map.insert files name bytes)
  pub full : (c : Contents) → ArchiveIs files name c → FullAs (with_version c new note) bytes

-- the archive is damaged, which none is that is sound with its notes
abbrev pub IsDamaged : Files → List ℕ → Refusal → Type 0
IsDamaged files name q = (q ≡ damaged name) × ((c : Contents) → ¬ ArchiveIs files name c)

-- it is damaged; or it would be too long, and so it would if it is sound
abbrev pub IsUnmerged : Files → List ℕ → PlainKeyed → Refusal → Type 0
IsUnmerged files name new q =
    IsDamaged files name q
    ⊎ ((q ≡ limit archive LONGEST) × ((c : Contents) → ArchiveIs files name c → (bytes : List ℕ) → ¬ FileOf c.rules (c.versions ++ new ∷ []) bytes))

-- The new version is refused. The limit of versions is judged first.
abbrev pub IsNotAdded : Files → List ℕ → PlainHeader → PlainKeyed → Refusal → Type 0
IsNotAdded files name h new q = ((h.versions ≡ MOST_VERSIONS) × (q ≡ limit versions MOST_VERSIONS)) ⊎ ((h.versions ≢ MOST_VERSIONS) × IsUnmerged files name new q)

-- with what the merge of a new version ends
abbrev pub AddEnds : Files → List ℕ → PlainHeader → PlainKeyed → List ℕ → Option Files → Option PlainFault → Type 0
AddEnds files name h new note after None = (h.versions ≢ MOST_VERSIONS) × Replaces files name new note after
AddEnds files name h new note after (Some (refused q)) = IsNotAdded files name h new q
AddEnds files name h new note after (Some other) = ⊤

-- with what its records end, before its notes
abbrev pub RecordsEnd : Files → List ℕ → PlainHeader → PlainKeyed → Option PlainFault → Type 0
RecordsEnd files name h new None = h.versions ≢ MOST_VERSIONS
RecordsEnd files name h new (Some (refused q)) = IsNotAdded files name h new q
RecordsEnd files name h new (Some other) = ⊤

-- With what the merge of a new version ends that may be refused itself.
abbrev pub TreeEnds : Files → List ℕ → PlainHeader → Result PlainKeyed Refusal → List ℕ → Option Files → Option PlainFault → Type 0
TreeEnds files name h (Ok new) note after ended = AddEnds files name h new note after ended
TreeEnds files name h (Err q) note after None = ⊥
TreeEnds files name h (Err q) note after (Some fault) = IsDefined {A = PlainKeyed} (Err q) fault

-- how far what was read may be ahead of what was written, over the records of an archive and then its notes
abbrev pub most_ahead : PlainHeader → List PlainRule → PlainArchive → Numbers → ℕ
most_ahead h rules a x = max (x.since - x.drafted - length (header_bytes rules a.n) + largest rules a) (x.since - x.drafted - h.first + 1028)

-- It ends so, and over a sound archive what was read is little ahead of what was written.
pub record Merges (files : Files) (name : List ℕ) (h : PlainHeader) (new : Result PlainKeyed Refusal) (note : List ℕ) (after : Option Files) (x y : Numbers) (ended : Option PlainFault) : Type 0 where
  pub ends : TreeEnds files name h new note after ended
  pub gap : (c : Contents) (a : PlainArchive) → ArchiveIs files name c → ArchiveOf c.versions a → y.gap ≤ max x.gap (most_ahead h c.rules a x)

-- Over a sound archive what was read is little ahead of what was written: once its records are written, no further than before them.
pub record KeepsUp (files : Files) (name : List ℕ) (h : PlainHeader) (x y : Numbers) (ended : Option PlainFault) : Type 0 where
  pub gap : (c : Contents) (a : PlainArchive) → ArchiveIs files name c → ArchiveOf c.versions a
      → y.gap ≤ max x.gap (x.since - x.drafted - length (header_bytes c.rules a.n) + largest c.rules a)
  pub ahead : ended ≡ None → y.since - y.drafted ≤ x.since - x.drafted - h.first
