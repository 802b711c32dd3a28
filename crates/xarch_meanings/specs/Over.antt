-- What may come of an archive, whether it is sound or not.
use Rattle.std.specs.Prelude.{◌≡◌, ◌⊎◌, ℕ, List, [], Option, Some, Result, Ok, Err, ⊤}
use Rattle.std.specs.FinMap as map
use Rattle.xa_outside.specs.Folder.{Files}
use Rattle.archive_tree.specs.Data.{PlainArchive}
use Rattle.archive_tree.specs.Stands.{ArchiveOf}
use Rattle.record_format.specs.Files.{FileOf}
use Rattle.record_format.specs.declared.limits.TheConstants.{LONGEST}
use Rattle.noted_file.specs.Contents.{Contents}
use Rattle.xarch_words.specs.Refusal as refusal
use Rattle.xarch_words.specs.Refusal.{Refusal, damaged, limit}
use Rattle.xarch_parts.specs.Archives.{ArchiveIs, Opened}
use Rattle.xarch_parts.specs.Outcome.{Outcome}

-- it has a value, and is not refused
pub record HasValue {A : Type 0} (x : Result A Refusal) : Type 0 where
  pub value : A
  pub is : x ≡ Ok value

-- the archive is sound, and this holds of what it holds
pub record HasArchiveWith (files : Files) (name : List ℕ) (P : Contents → Type 0) : Type 0 where
  pub contents : Contents
  pub archive : ArchiveIs files name contents
  pub is : P contents

-- the archive is sound
abbrev pub HasArchive : Files → List ℕ → Type 0
HasArchive files name = HasArchiveWith files name (λ c. ⊤)

-- what is held has a file
abbrev pub HasFile : Contents → Type 0
HasFile c = (bytes : List ℕ) × FileOf c.rules c.versions bytes

-- over told files, where the archive of this name is sound
abbrev pub IfSound : Option Files → List ℕ → (Files → Contents → PlainArchive → Type 0) → Type 0
IfSound told name P = (files : Files) (c : Contents) (a : PlainArchive) → told ≡ Some files → ArchiveIs files name c → ArchiveOf c.versions a → P files c a

-- some file came under the archive's name
pub record Replaced (files : Files) (name : List ℕ) (r : Result Outcome Refusal) : Type 0 where
  pub bytes : List ℕ
  pub is : r ≡ Ok (record { files = map.insert files name bytes; output = [] })

-- something was written
pub record Written (files : Files) (r : Result Outcome Refusal) : Type 0 where
  pub output : List ℕ
  pub is : r ≡ Ok (record { files = files; output = output })

-- The archive is damaged, or the new one would be too long, or some file comes under the new one's name.
abbrev pub MayMake : Files → List ℕ → List ℕ → Result Outcome Refusal → Type 0
MayMake files name new r = (r ≡ Err (damaged name)) ⊎ (r ≡ Err (limit refusal.archive LONGEST)) ⊎ Replaced files new r

-- The archive is damaged, or it is sound.
abbrev pub DamagedOrSound : Files → List ℕ → Result Outcome Refusal → Type 0
DamagedOrSound files name r = (r ≡ Err (damaged name)) ⊎ Opened files name (λ _ _. ⊤) r

-- The archive is damaged, or something was written.
abbrev pub MayWrite : Files → List ℕ → Result Outcome Refusal → Type 0
MayWrite files name r = (r ≡ Err (damaged name)) ⊎ Written files r

-- What may come whatever the archive of this name is, and what comes where it is sound.
pub record MayOver (files : Files) (name : List ℕ) (any : Result Outcome Refusal → Type 0) (exact : Contents → Result Outcome Refusal → Type 0) (r : Result Outcome Refusal) : Type 0 where
  pub whatever : any r
  pub sound : (c : Contents) → ArchiveIs files name c → exact c r
