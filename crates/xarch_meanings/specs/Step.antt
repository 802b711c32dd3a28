-- What the words have the program do.
use Rattle.std.specs.Prelude.{◌≡◌, ℕ, List, Option, Some, None, Result}
use Rattle.xa_outside.specs.Folder.{Files}
use Rattle.xarch_words.specs.Commands.{PlainCommand, batch, command_of}
use Rattle.xarch_words.specs.Refusal.{Refusal}
use Rattle.xarch_parts.specs.Outcome.{Outcome, Step, step_from}
use Rattle.xarch_meanings.specs.Meanings.{DoesOrRefuses}

-- The command that the words spell by themselves. A batch is none: it is given its commands by its input.
abbrev pub alone : Option PlainCommand → Option PlainCommand
alone None = None
alone (Some batch) = None
alone (Some command) = Some command

abbrev pub single_of : List (List ℕ) → Option PlainCommand
single_of words = alone (command_of words)

abbrev pub Defines : Files → List (List ℕ) → Result Outcome Refusal → Type 0
Defines files words r = DoesOrRefuses files (single_of words) r

-- the step that the words have the program take
pub record StepIs (files : Files) (words : List (List ℕ)) (s : Step) : Type 0 where
  pub outcome : Result Outcome Refusal
  pub defined : Defines files words outcome
  pub is : s ≡ step_from files outcome
