-- A step that words may have the program take, whether the archive that they name is sound or not.
use Rattle.std.specs.Prelude.{◌≡◌, ◌⊎◌, ℕ, List, [], Option, Result, Ok, Err}
use Rattle.xa_outside.specs.Folder.{Files}
use Rattle.xa_outside.specs.Taken.{Taken, TakesNone, TakesPrefix}
use Rattle.xarch_words.specs.Commands.{PlainCommand}
use Rattle.xarch_words.specs.Lines.{fault_line, refusal_status}
use Rattle.xarch_words.specs.Refusal.{Refusal, refused}
use Rattle.xarch_parts.specs.Outcome.{Outcome, Step, step_from}
use Rattle.xarch_meanings.specs.Meanings.{MayComeLate, MayDo}
use Rattle.xarch_meanings.specs.Ran.{Ran}
use Rattle.xarch_meanings.specs.Step.{StepIs, single_of}

-- the refusal, if it is one, may come late
abbrev pub IsLate : Files → Option PlainCommand → Result Outcome Refusal → Type 0
IsLate files c (Ok o) = ⊥
IsLate files c (Err r) = MayComeLate files c r

-- the step of an outcome, where this was written before a refusal
abbrev pub step_behind : Files → List ℕ → Result Outcome Refusal → Step
step_behind files written (Ok o) = step_from files (Ok o)
step_behind files written (Err r) = record { files = files; output = written; line = fault_line (refused r); status = refusal_status r }

-- A step that a command may have the program take, or that what is no command may. Before a refusal nothing was written, but for one that comes late.
pub record MayStep (files : Files) (c : Option PlainCommand) (s : Step) : Type 0 where
  pub outcome : Result Outcome Refusal
  pub may : MayDo files c outcome
  pub written : List ℕ
  pub behind : (written ≡ []) ⊎ IsLate files c outcome
  pub is : s ≡ step_behind files written outcome

-- a step that the words may have the program take
abbrev pub Plausible : Files → List (List ℕ) → Step → Type 0
Plausible files words s = MayStep files (single_of words) s

-- A step was taken that the words may have the program take: the defined one, where one is defined.
pub record Tried (files : Files) (words : List (List ℕ)) (answer : ℕ) (after : Option Files) (old new err_old err_new : Taken) (before now : ℕ) : Type 0 where
  pub step : Step
  pub may : Plausible files words step
  pub defined : (s : Step) → StepIs files words s → s ≡ step
  pub ran : Ran step answer after old new err_old err_new before now

-- A prefix was written of the output of such a step.
pub record WrotePrefix (files : Files) (words : List (List ℕ)) (old new : Taken) : Type 0 where
  pub step : Step
  pub may : Plausible files words step
  pub defined : (s : Step) → StepIs files words s → s ≡ step
  pub output : TakesPrefix old new step.output

-- nothing was written, or such a prefix
abbrev pub Wrote : Files → List (List ℕ) → Taken → Taken → Type 0
Wrote files words old new = TakesNone old new ⊎ WrotePrefix files words old new
