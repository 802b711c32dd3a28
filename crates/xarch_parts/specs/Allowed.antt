-- How a command ends, by what it may do.
use Rattle.std.specs.Prelude.{◌≡◌, ◌⊎◌, Option, Some, None, Result, Ok, Err}
use Rattle.xa_outside.specs.Folder.{Files}
use Rattle.xa_outside.specs.Taken.{Taken, Takes, TakesNone, TakesPrefix}
use Rattle.xarch_words.specs.Refusal.{Refusal, PlainFault, refused}
use Rattle.xarch_parts.specs.Ends.{Gained, TellsOnly}
use Rattle.xarch_parts.specs.Outcome.{Outcome, output_of}

-- it did what it may do
pub record DidSome (allowed : Result Outcome Refusal → Type 0) (after : Option Files) (old new : Taken) : Type 0 where
  pub outcome : Outcome
  pub may : allowed (Ok outcome)
  pub files : TellsOnly after outcome.files
  pub output : Takes old new outcome.output

-- it was refused as it may be
pub record RefusedBy (allowed : Result Outcome Refusal → Type 0) (r : Refusal) (old new : Taken) : Type 0 where
  pub may : allowed (Err r)
  pub output : TakesNone old new

-- it has written a prefix of what it may write
pub record PutSome (allowed : Result Outcome Refusal → Type 0) (old new : Taken) : Type 0 where
  pub outcome : Result Outcome Refusal
  pub may : allowed outcome
  pub output : TakesPrefix old new (output_of outcome)

-- After a fault of the outside it has written nothing, or a prefix of what it may write.
unfoldable pub MayEnd : (Result Outcome Refusal → Type 0) → Option PlainFault → Option Files → Taken → Taken → Type 0
MayEnd allowed None after old new = DidSome allowed after old new
MayEnd allowed (Some (refused r)) after old new = RefusedBy allowed r old new
MayEnd allowed (Some _) after old new = TakesNone old new ⊎ PutSome allowed old new

-- it had written something when it was refused, as it may be, by a refusal that may come late
pub record RefusedLate (comes_late : Refusal → Type 0) (allowed : Result Outcome Refusal → Type 0) (ended : Option PlainFault) (old new : Taken) : Type 0 where
  pub refusal : Refusal
  pub is : ended ≡ Some (refused refusal)
  pub late : comes_late refusal
  pub may : allowed (Err refusal)
  pub output : Gained old new

-- The same of a command of which some refusals may come late, behind output.
abbrev pub MayEndLate : (Refusal → Type 0) → (Result Outcome Refusal → Type 0) → Option PlainFault → Option Files → Taken → Taken → Type 0
MayEndLate late allowed ended after old new = MayEnd allowed ended after old new ⊎ RefusedLate late allowed ended old new
