-- What the writing of one entry does.
use Rattle.std.specs.Prelude.{◌≡◌, ℕ, ◌≤◌, List, Option, Some, None, ⊤}
use Rattle.keyed_tree.specs.Data.{PlainKey, scalar, inside}
use Rattle.xa_fields.specs.Reading.{whole}
use Rattle.record_parts.specs.Bounds.{deepest}
use Rattle.record_parts.specs.Reading.{content_at}
use Rattle.xa_outside.specs.Causes.{Rose}
use Rattle.xa_outside.specs.Taken.{Taken}
use Rattle.content_log.specs.Written.{Prefixed}
use Rattle.content_log.specs.declared.fault.LogFault.{LogFault}
use Rattle.content_log.specs.declared.fault.LogFault.TheVariants.{Damage, Folder, Out, Memory}

abbrev pub IsScalarKey : PlainKey → Type 0
IsScalarKey (scalar v) = ⊤
IsScalarKey (inside c) = ⊥

-- the bytes of the content that the key is, and none where it is a scalar
abbrev pub ContentIs : PlainKey → Option (List ℕ) → Type 0
ContentIs (inside c) (Some bytes) = whole (content_at deepest) bytes ≡ Some c
ContentIs (inside c) None = ⊥
ContentIs (scalar v) (Some bytes) = ⊥
ContentIs (scalar v) None = ⊤

-- the output failed where its count rose, or memory ran out
abbrev pub IsOutCause : ℕ → ℕ → Option LogFault → Type 0
IsOutCause before now None = ⊤
IsOutCause before now (Some Damage) = ⊥
IsOutCause before now (Some Folder) = ⊥
IsOutCause before now (Some Out) = Rose before now
IsOutCause before now (Some Memory) = ⊤

-- A text was written, or a prefix of it, and it is said why.
pub record EntryPut (old new : Taken) (before now : ℕ) (text : List ℕ) (ended : Option LogFault) : Type 0 where
  pub bytes : Prefixed old new ended text
  pub later : before ≤ now
  pub cause : IsOutCause before now ended
