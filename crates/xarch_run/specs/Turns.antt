-- What running one line of a batch did.
use Rattle.std.specs.Prelude.{◌≡◌, ◌≢◌, ◌⊎◌, ℕ, List, [], ◌∷◌, false, Option, None, MatchOption, Result, Ok, Err}
use Rattle.xa_outside.specs.Causes.{Rose}
use Rattle.xa_outside.specs.Folder.{Files}
use Rattle.xa_outside.specs.Taken.{Taken, Takes, TakesPrefix}
use Rattle.xarch_words.specs.Lines.{fault_line}
use Rattle.xarch_words.specs.Refusal.{PlainFault, out_fault, memory}
use Rattle.xarch_parts.specs.Outcome.{Step}
use Rattle.xarch_meanings.specs.Ran.{Ran, Says, outside_of}
use Rattle.xarch_run.specs.Batch.{Gains, RunsOver, Scene, Stops}
use Rattle.xarch_run.specs.Lines.{is_blank, without_blanks}
use Rattle.xarch_run.specs.Steps.{IsStep, MayFault, MayPrint, status_line}

-- ---- its step

-- a step was taken that the line may have the program take
pub record LineTried (before after : Option Files) (line : List ℕ) (answer : ℕ) (old new err_old err_new : Taken) (count_before count_now : ℕ) : Type 0 where
  pub step : Step
  pub may : IsStep before after line step
  pub ran : Ran step answer after old new err_old err_new count_before count_now

-- a prefix was written of the output of such a step
pub record LinePrefix (before after : Option Files) (line : List ℕ) (old new : Taken) : Type 0 where
  pub step : Step
  pub may : IsStep before after line step
  pub output : TakesPrefix old new step.output

-- nothing was written, or such a prefix
abbrev pub LineWrote : Option Files → Option Files → List ℕ → Taken → Taken → Type 0
LineWrote before after line old new = Takes old new [] ⊎ LinePrefix before after line old new

-- A fault of the outside changed no file, and its line was said. It comes to a command alone, and one of the output to a command that may print.
pub record LineFaults (before after : Option Files) (line : List ℕ) (fault : PlainFault) (old new err_old err_new : Taken) (count_before count_now : ℕ) : Type 0 where
  pub spelled : MayFault line
  pub prints : fault ≡ out_fault → MayPrint line
  pub wrote : LineWrote before after line old new
  pub kept : after ≡ before
  pub said : Says err_old err_new count_before count_now (fault_line fault)

-- its step was taken, or a fault of the outside came
abbrev pub LineTakes : Option Files → Option Files → List ℕ → ℕ → Taken → Taken → Taken → Taken → ℕ → ℕ → Type 0
LineTakes before after line answer old new err_old err_new count_before count_now =
    MatchOption (outside_of answer) (LineTried before after line answer old new err_old err_new count_before count_now)
    (λ fault. LineFaults before after line fault old new err_old err_new count_before count_now)

-- Nothing was done.
pub record IsUntouched (before after : Option Files) (old new err_old err_new : Taken) (count_before count_now : ℕ) : Type 0 where
  pub files : after ≡ before
  pub output : new ≡ old
  pub error : err_new ≡ err_old
  pub faults : count_now ≡ count_before

-- ---- its status line

-- the error sink is as it was
pub record IsSilent (old new : Taken) (before now : ℕ) : Type 0 where
  pub taken : new ≡ old
  pub faults : now ≡ before

-- The status line came, and the batch goes on.
pub record StatusComes (status : ℕ) (old new err_old err_new : Taken) (before now : ℕ) : Type 0 where
  pub other : outside_of status ≡ None
  pub output : Takes old new (status_line status)
  pub silent : IsSilent err_old err_new before now

-- A write of the command had failed, and none was tried again.
pub record NoStatus (status answer : ℕ) (old new err_old err_new : Taken) (before now : ℕ) : Type 0 where
  pub write_failed : status ≡ 14
  pub same : answer ≡ 14
  pub output : new ≡ old
  pub silent : IsSilent err_old err_new before now

-- The write of the status line failed.
pub record StatusLost (status answer : ℕ) (old new err_old err_new : Taken) (before now out_before out_now : ℕ) : Type 0 where
  pub other : status ≢ 14
  pub is : answer ≡ 14
  pub cause : Rose out_before out_now
  pub output : TakesPrefix old new (status_line status)
  pub line : Says err_old err_new before now (fault_line out_fault)

-- The status line of a fault came, which ends the batch.
pub record LastStatus (status answer : ℕ) (old new err_old err_new : Taken) (before now : ℕ) : Type 0 where
  pub kind : (status ≡ 13) ⊎ (status ≡ 16)
  pub same : answer ≡ status
  pub output : Takes old new (status_line status)
  pub silent : IsSilent err_old err_new before now

abbrev pub StatusEnds : ℕ → Taken → Taken → Taken → Taken → ℕ → ℕ → ℕ → ℕ → Result Unit ℕ → Type 0
StatusEnds status old new err_old err_new before now out_before out_now (Ok u) = StatusComes status old new err_old err_new before now
StatusEnds status old new err_old err_new before now out_before out_now (Err answer) =
    NoStatus status answer old new err_old err_new before now
    ⊎ (StatusLost status answer old new err_old err_new before now out_before out_now
    ⊎ LastStatus status answer old new err_old err_new before now)

-- ---- both

-- no memory was found for the words of the line
pub record NoWords (w : Scene) (answer : ℕ) : Type 0 where
  pub status : answer ≡ 16
  pub files : w.files_now ≡ w.files_before
  pub gains : Gains w [] (fault_line memory ∷ [])

-- the line ended the batch
pub record LineStops (w : Scene) (line : List ℕ) (answer : ℕ) : Type 0 where
  pub written : List ℕ
  pub spoken : List (List ℕ)
  pub stops : Stops w.files_before w.files_now line answer written spoken
  pub gains : Gains w written spoken

-- it was run where it is not blank, or it ended the batch
abbrev pub LineRuns : Scene → List ℕ → Result Unit ℕ → Type 0
LineRuns w line (Ok u) = RunsOver w (without_blanks (line ∷ [])) []
LineRuns w line (Err answer) = (is_blank line ≡ false) × (NoWords w answer ⊎ LineStops w line answer)

-- ---- the status with which a line ends the batch

abbrev pub IsLastStatus : ℕ → ℕ → ℕ → ℕ → ℕ → Type 0
IsLastStatus folder_before folder_now out_before out_now answer =
    ((answer ≡ 13) × Rose folder_before folder_now) ⊎ (((answer ≡ 14) × Rose out_before out_now) ⊎ (answer ≡ 16))
