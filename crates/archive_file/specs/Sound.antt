-- Which bytes are a sound archive.
use Rattle.std.specs.Prelude.{◌≡◌, ℕ, ◌≤◌, List, length, Ok}
use Rattle.key_spec.specs.Data.{PlainRule}
use Rattle.key_spec.specs.Canonical.{canonical}
use Rattle.key_spec.specs.Closed.{closed}
use Rattle.keyed_tree.specs.Data.{PlainKeyed}
use Rattle.record_parts.specs.Bounds.{most}
use Rattle.record_format.specs.Files.{FileOf}
use Rattle.archive_file.specs.KeyedBy.{AreKeyedBy}

-- The bytes are the archive file of these versions, each of them keyed by these rules, which are those of a specification.
pub record SoundAs (rules : List PlainRule) (versions : List PlainKeyed) (bytes : List ℕ) : Type 0 where
  pub specification : closed (canonical rules) ≡ Ok rules
  pub keyed : AreKeyedBy rules versions
  pub few : length versions ≤ most
  pub file : FileOf rules versions bytes

-- The bytes are a sound archive.
pub record Sound (bytes : List ℕ) : Type 0 where
  pub rules : List PlainRule
  pub versions : List PlainKeyed
  pub is : SoundAs rules versions bytes
