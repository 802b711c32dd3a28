-- Which bytes are an archive with a note for each version.
use Rattle.std.specs.Prelude.{◌≡◌, ℕ, List, ◌++◌, length}
use Rattle.std.specs.List.{AllByRecursion}
use Rattle.record_format.specs.Files.{FileOf}
use Rattle.archive_file.specs.Sound.{SoundAs}
use Rattle.version_notes.specs.Notes.{IsNote, notes_part}
use Rattle.noted_file.specs.Contents.{Contents}

-- The bytes are some core, and behind it stand so many notes.
pub record Noted (IsCore : List ℕ → Type 0) (count : ℕ) (notes : List (List ℕ)) (bytes : List ℕ) : Type 0 where
  pub core : List ℕ
  pub is : IsCore core
  pub as_many : length notes ≡ count
  pub each : AllByRecursion IsNote notes
  pub spelled : bytes ≡ core ++ notes_part notes

-- the archive file of the versions under the specification, and a note for each of them
abbrev pub FullOf : Contents → List ℕ → Type 0
FullOf c bytes = Noted (FileOf c.rules c.versions) (length c.versions) c.notes bytes

-- the sound archive of these versions, and a note for each of them
abbrev pub FullAs : Contents → List ℕ → Type 0
FullAs c bytes = Noted (SoundAs c.rules c.versions) (length c.versions) c.notes bytes

-- The bytes are a sound archive with a note for each version.
pub record Full (bytes : List ℕ) : Type 0 where
  pub contents : Contents
  pub is : FullAs contents bytes
