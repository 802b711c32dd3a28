-- What the bytes of an archive say of its versions.
use Rattle.std.specs.Prelude.{◌≡◌, ℕ, List, Some}
use Rattle.key_spec.specs.Data.{PlainRule}
use Rattle.keyed_tree.specs.Data.{PlainKeyed}
use Rattle.keyed_print.specs.KeyedText.{keyed_text}
use Rattle.archive_tree.specs.Data.{PlainArchive}
use Rattle.archive_tree.specs.Stands.{version_of}
use Rattle.archive_file.specs.Sound.{SoundAs}

-- An archive for some bytes: where these are a sound archive file, the one that it is the file of.
pub record TellsArchives (read : List ℕ → PlainArchive) : Type 0 where
  pub is : (bytes : List ℕ) (rules : List PlainRule) (vs : List PlainKeyed) → (sound : SoundAs rules vs bytes) → read bytes ≡ sound.file.archive

-- Versions for some bytes: where these are a sound archive, they are its versions.
pub record TellsVersions (read : List ℕ → List PlainKeyed) : Type 0 where
  pub is : (bytes : List ℕ) (rules : List PlainRule) (vs : List PlainKeyed) → SoundAs rules vs bytes → read bytes ≡ vs

-- A text for each number, by some bytes: where these are a sound archive with such a version, it is the version's.
pub record TellsTexts (text : List ℕ → ℕ → List ℕ) : Type 0 where
  pub is : (bytes : List ℕ) (rules : List PlainRule) (vs : List PlainKeyed) (i : ℕ) (k : PlainKeyed) → SoundAs rules vs bytes → version_of vs i ≡ Some k → text bytes i ≡ keyed_text k
