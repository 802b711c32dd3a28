-- Commands in order, whether they are given by calls of the program or by the lines of a batch.
use Rattle.std.specs.Prelude.{◌≡◌, ◌≢◌, ◌⊎◌, ℕ, List, [], ◌∷◌, ◌++◌, map, Option, Some, None, IsSome, Err, ⊤}
use Rattle.xa_outside.specs.Folder.{Files}
use Rattle.xarch_words.specs.Commands.{PlainCommand, batch, command_of}
use Rattle.xarch_words.specs.Refusal.{line, usage, limit}
use Rattle.xarch_words.specs.declared.limits.TheConstants.{LINE}
use Rattle.xarch_parts.specs.Outcome.{Step, step_from}
use Rattle.xarch_meanings.specs.Plausible.{MayStep, Plausible}
use Rattle.xarch_meanings.specs.Ran.{outside_of}
use Rattle.xarch_meanings.specs.Step.{single_of}
use Rattle.xarch_run.specs.Batch.{AreRead}
use Rattle.xarch_run.specs.Lines.{lines_of}
use Rattle.xarch_run.specs.Steps.{LinesLead, files_after, line_command}

-- ---- one command

-- The step of a command: the defined one, where the archive that it names is absent or sound, and else one that it may take.
-- What is no command is refused as that, or as a line that is too long.
abbrev pub CommandMay : Files → Option PlainCommand → Step → Type 0
CommandMay files None s = (s ≡ step_from files (Err usage)) ⊎ (s ≡ step_from files (Err (limit line LINE)))
CommandMay files (Some command) s = MayStep files (Some command) s

-- One step for each command, each from the files that the one before left.
abbrev pub CommandsDid : Files → List (Option PlainCommand) → List Step → Type 0
CommandsDid files [] [] = ⊤
CommandsDid files [] (s ∷ ss) = ⊥
CommandsDid files (c ∷ cs) [] = ⊥
CommandsDid files (c ∷ cs) (s ∷ ss) = CommandMay files c s × CommandsDid s.files cs ss

-- ---- one call of `run`

-- its words, the bytes of its input, and its answer
pub record Call : Type 0 where
  pub words : List (List ℕ)
  pub input : List ℕ
  pub answer : ℕ

abbrev pub call_of : List (List ℕ) → List ℕ → ℕ → Call
call_of words input answer = record { words = words; input = input; answer = answer }

-- The words had the program take a step, which was answered.
pub record Stepped (files : Files) (call : Call) (now : Files) (commands : List (Option PlainCommand)) (steps : List Step) : Type 0 where
  pub single : command_of call.words ≢ Some batch
  pub step : Step
  pub may : Plausible files call.words step
  pub answered : call.answer ≡ step.status
  pub left : now ≡ step.files
  pub command : commands ≡ single_of call.words ∷ []
  pub is : steps ≡ step ∷ []

-- A fault of the outside, or want of memory: no command took its step, and no file changed.
pub record Faulted (files : Files) (call : Call) (now : Files) (commands : List (Option PlainCommand)) (steps : List Step) : Type 0 where
  pub single : command_of call.words ≢ Some batch
  pub fault : IsSome (outside_of call.answer)
  pub left : now ≡ files
  pub command : commands ≡ []
  pub is : steps ≡ []

-- The words were those of a batch. The first of its lines were run, which stand within the bytes that a batch may have, and
-- all of them where it answered 0. What each of them was answered is said by the steps of `BatchEnds` alone.
pub record LinesRun (files : Files) (call : Call) (now : Files) (commands : List (Option PlainCommand)) (steps : List Step) : Type 0 where
  pub many : command_of call.words ≡ Some batch
  pub lines : List (List ℕ)
  pub behind : List (List ℕ)
  pub first : lines_of call.input ≡ lines ++ behind
  pub all : call.answer ≡ 0 → behind ≡ []
  pub read : AreRead call.input lines
  pub leads : LinesLead files lines steps now
  pub command : commands ≡ map line_command lines

-- The commands of one call, the steps that they took, and the files that the call left.
abbrev pub CallDid : Files → Call → Files → List (Option PlainCommand) → List Step → Type 0
CallDid files call now commands steps =
    Stepped files call now commands steps
    ⊎ (Faulted files call now commands steps
    ⊎ LinesRun files call now commands steps)

-- what it did are some commands
pub record DidCommands (files : Files) (call : Call) (now : Files) : Type 0 where
  pub commands : List (Option PlainCommand)
  pub steps : List Step
  pub did : CallDid files call now commands steps

-- ---- calls in order

-- the commands and steps of a call, and behind them those of the calls that follow it
pub record CallThen (files : Files) (call : Call) (Rest : Files → List (Option PlainCommand) → List Step → Type 0) (commands : List (Option PlainCommand)) (steps : List Step) : Type 0 where
  pub between : Files
  pub first_commands : List (Option PlainCommand)
  pub first_steps : List Step
  pub did : CallDid files call between first_commands first_steps
  pub later_commands : List (Option PlainCommand)
  pub later_steps : List Step
  pub rest : Rest between later_commands later_steps
  pub all_commands : commands ≡ first_commands ++ later_commands
  pub all_steps : steps ≡ first_steps ++ later_steps

-- no commands and no steps
pub record NothingDone (files now : Files) (commands : List (Option PlainCommand)) (steps : List Step) : Type 0 where
  pub left : now ≡ files
  pub command : commands ≡ []
  pub is : steps ≡ []

-- The commands of calls one after another, each on the files that the one before left, and the steps that they took.
abbrev pub CallsDid : Files → List Call → Files → List (Option PlainCommand) → List Step → Type 0
CallsDid files [] now commands steps = NothingDone files now commands steps
CallsDid files (call ∷ calls) now commands steps = CallThen files call (λ between cs ss. CallsDid between calls now cs ss) commands steps

-- the commands took these steps, one after another, and led to these files
pub record CommandsLead (files : Files) (commands : List (Option PlainCommand)) (steps : List Step) (now : Files) : Type 0 where
  pub are : CommandsDid files commands steps
  pub left : now ≡ files_after files steps
