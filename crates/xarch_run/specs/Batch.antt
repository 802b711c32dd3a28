-- How a batch ends.
use Rattle.std.specs.Prelude.{◌≡◌, ◌⊎◌, ℕ, ◌<◌, ◌≤◌, List, [], ◌∷◌, ◌++◌, length, take, Option, Some, None}
use Rattle.std.specs.Io.KnownBytes.{Consumes}
use Rattle.std.specs.List.{concat}
use Rattle.xa_outside.specs.Causes.{Rose}
use Rattle.xa_outside.specs.Filled.{ConsumesSome}
use Rattle.xa_outside.specs.Folder.{Files}
use Rattle.xa_outside.specs.Taken.{Taken, Takes, TakesNone, TakesPrefix}
use Rattle.xarch_words.specs.Lines.{fault_line, fault_status}
use Rattle.xarch_words.specs.Refusal.{batch, limit, PlainFault, refused, folder_fault, out_fault, in_fault, memory}
use Rattle.xarch_words.specs.declared.limits.TheConstants.{BATCH}
use Rattle.xarch_parts.specs.Outcome.{Step}
use Rattle.xarch_run.specs.Lines.{lines_of, ended_lines_of}
use Rattle.xarch_run.specs.Steps.{AreSteps, IfTold, IsStep, MayFault, MayPrint, lines_said, outs, status_line}

-- ---- what is seen

-- the files where they are told, the output, and the error sink with its count of faults, before and now
pub record Scene : Type 0 where
  pub files_before : Option Files
  pub files_now : Option Files
  pub out_before : Taken
  pub out_now : Taken
  pub err_before : Taken
  pub err_now : Taken
  pub count_before : ℕ
  pub count_now : ℕ

abbrev pub scene : Option Files → Option Files → Taken → Taken → Taken → Taken → ℕ → ℕ → Scene
scene before now o p e f m n =
    record { files_before = before; files_now = now; out_before = o; out_now = p; err_before = e; err_now = f; count_before = m; count_now = n }

-- what a folder, an output and an error sink show before and now
abbrev pub shown : {F O E : Type 0} → (F → Option Files) → (O → Taken) → (E → Taken) → (E → ℕ) → F → F → O → O → E → E → Scene
shown files taken said faults f g o p e r = scene (files f) (files g) (taken o) (taken p) (said e) (said r) (faults e) (faults r)

-- a prefix of this line was said, and then this
pub record SaysThen (old : Taken) (line : List ℕ) (Rest : Taken → Type 0) : Type 0 where
  pub between : Taken
  pub first : TakesPrefix old between line
  pub rest : Rest between

-- of each line, in order, a prefix was said
abbrev pub SaysEach : Taken → Taken → List (List ℕ) → Type 0
SaysEach old new [] = TakesNone old new
SaysEach old new (line ∷ lines) = SaysThen old line (λ between. SaysEach between new lines)

-- What the output gained, and the error sink: these lines where it did not fail, and a prefix of each in any case.
pub record Gains (w : Scene) (written : List ℕ) (spoken : List (List ℕ)) : Type 0 where
  pub output : Takes w.out_before w.out_now written
  pub line : ¬ Rose w.count_before w.count_now → Takes w.err_before w.err_now (concat spoken)
  pub pieces : SaysEach w.err_before w.err_now spoken

-- Each line was run, from the files that the one before left. Output and error sink gained what the steps write and say, and
-- the error sink then these lines.
pub record RunsOver (w : Scene) (lines spoken : List (List ℕ)) : Type 0 where
  pub steps : List Step
  pub are : AreSteps w.files_before w.files_now lines steps
  pub gains : Gains w (outs steps) (lines_said steps ++ spoken)

-- ---- a line that ends the batch

-- a prefix of what a step of the line writes
pub record IsFront (before now : Option Files) (line part : List ℕ) : Type 0 where
  pub step : Step
  pub may : IsStep before now line step
  pub count : ℕ
  pub is : part ≡ take count step.output

-- what a command has written before a fault
abbrev pub IsPart : Option Files → Option Files → List ℕ → List ℕ → Type 0
IsPart before now line part = (part ≡ []) ⊎ IsFront before now line part

-- after these faults of a command its status line still comes
abbrev pub EndsTheBatch : PlainFault → Type 0
EndsTheBatch fault = (fault ≡ folder_fault) ⊎ (fault ≡ memory)

-- The command answered a fault, whose status line came.
pub record CommandFaults (before now : Option Files) (line : List ℕ) (answer : ℕ) (written : List ℕ) (spoken : List (List ℕ)) : Type 0 where
  pub fault : PlainFault
  pub spelled : MayFault line
  pub kind : EndsTheBatch fault
  pub status : answer ≡ fault_status fault
  pub part : List ℕ
  pub front : IsPart before now line part
  pub output : written ≡ part ++ status_line answer
  pub line_is : spoken ≡ fault_line fault ∷ []
  pub files_kept : now ≡ before

-- A write of the command failed, which is none of those that print nothing.
pub record WriteFails (before now : Option Files) (line : List ℕ) (answer : ℕ) (written : List ℕ) (spoken : List (List ℕ)) : Type 0 where
  pub status : answer ≡ 14
  pub spelled : MayFault line
  pub prints : MayPrint line
  pub front : IsPart before now line written
  pub line_is : spoken ≡ fault_line out_fault ∷ []
  pub files_kept : now ≡ before

-- The command took its step, and the write of its status line failed.
pub record StatusFails (before now : Option Files) (line : List ℕ) (answer : ℕ) (written : List ℕ) (spoken : List (List ℕ)) : Type 0 where
  pub status : answer ≡ 14
  pub step : Step
  pub may : IsStep before now line step
  pub count : ℕ
  pub output : written ≡ step.output ++ take count (status_line step.status)
  pub line_is : spoken ≡ step.line ∷ fault_line out_fault ∷ []
  pub files_now : IfTold before now (λ f g. g ≡ step.files)

-- The command answered a fault, and the write of its status line failed.
pub record FaultStatusFails (before now : Option Files) (line : List ℕ) (answer : ℕ) (written : List ℕ) (spoken : List (List ℕ)) : Type 0 where
  pub status : answer ≡ 14
  pub fault : PlainFault
  pub spelled : MayFault line
  pub kind : EndsTheBatch fault
  pub part : List ℕ
  pub front : IsPart before now line part
  pub count : ℕ
  pub output : written ≡ part ++ take count (status_line (fault_status fault))
  pub line_is : spoken ≡ fault_line fault ∷ fault_line out_fault ∷ []
  pub files_kept : now ≡ before

-- How a line ends the batch with this answer: the files before it and now, what the output gained, and what was said.
abbrev pub Stops : Option Files → Option Files → List ℕ → ℕ → List ℕ → List (List ℕ) → Type 0
Stops before now line answer written spoken =
    CommandFaults before now line answer written spoken
    ⊎ (WriteFails before now line answer written spoken
    ⊎ (StatusFails before now line answer written spoken
    ⊎ FaultStatusFails before now line answer written spoken))

-- ---- all ends

-- These lines come first in the input, and stand within the bytes that a batch may have. Each is ended by an LF there, but
-- for the last one of an input that ends.
pub record AreRead (bytes : List ℕ) (lines : List (List ℕ)) : Type 0 where
  pub front : List ℕ
  pub behind : List ℕ
  pub is : bytes ≡ front ++ behind
  pub few : length front ≤ BATCH
  pub among : (lines ≡ ended_lines_of front) ⊎ ((behind ≡ []) × (lines ≡ lines_of front))

-- All lines were run, and the input is at its end.
pub record AllRun (w : Scene) (bytes : List ℕ) (rest : Option (List ℕ)) (answer : ℕ) : Type 0 where
  pub status : answer ≡ 0
  pub over : RunsOver w (lines_of bytes) []
  pub all : rest ≡ Some []
  pub few : length bytes ≤ BATCH

-- The input is too long, and the lines were run that an LF ends among its first bytes, as many as a batch may have.
pub record InputTooLong (w : Scene) (bytes : List ℕ) (answer : ℕ) : Type 0 where
  pub status : answer ≡ 12
  pub front : List ℕ
  pub behind : List ℕ
  pub is : bytes ≡ front ++ behind
  pub full : length front ≡ BATCH
  pub more : 0 < length behind
  pub over : RunsOver w (ended_lines_of front) (fault_line (refused (limit batch BATCH)) ∷ [])

-- A read failed, and the lines were run that an LF ends among the bytes read.
pub record ReadFailed (w : Scene) (bytes : List ℕ) (rest : Option (List ℕ)) (answer : ℕ) : Type 0 where
  pub status : answer ≡ 15
  pub front : List ℕ
  pub consumed : Consumes (Some bytes) rest front
  pub few : length front ≤ BATCH
  pub over : RunsOver w (ended_lines_of front) (fault_line in_fault ∷ [])

-- The batch itself found no memory.
pub record NoMemory (w : Scene) (bytes : List ℕ) (answer : ℕ) : Type 0 where
  pub status : answer ≡ 16
  pub lines : List (List ℕ)
  pub behind : List (List ℕ)
  pub is : lines_of bytes ≡ lines ++ behind
  pub read : AreRead bytes lines
  pub over : RunsOver w lines (fault_line memory ∷ [])

-- The lines in front of this one were run, and it ended the batch. All of them were read. Files that were not told between are not told now.
pub record StoppedAt (w : Scene) (bytes : List ℕ) (answer : ℕ) : Type 0 where
  pub lines : List (List ℕ)
  pub steps : List Step
  pub line : List ℕ
  pub behind : List (List ℕ)
  pub is : lines_of bytes ≡ lines ++ line ∷ behind
  pub first : AreRead bytes lines
  pub read : AreRead bytes (lines ++ line ∷ [])
  pub between : Option Files
  pub untold : between ≡ None → w.files_now ≡ None
  pub are : AreSteps w.files_before between lines steps
  pub written : List ℕ
  pub spoken : List (List ℕ)
  pub stops : Stops between w.files_now line answer written spoken
  pub gains : Gains w (outs steps ++ written) (lines_said steps ++ spoken)

-- how a batch over an input of these bytes ended, and what is left of it
abbrev pub BatchEnds : Scene → List ℕ → Option (List ℕ) → ℕ → Type 0
BatchEnds w bytes rest answer =
    AllRun w bytes rest answer
    ⊎ (InputTooLong w bytes answer
    ⊎ (ReadFailed w bytes rest answer
    ⊎ (NoMemory w bytes answer
    ⊎ StoppedAt w bytes answer)))

-- ---- whatever the folder tells

-- what a batch may answer: a fault of an object comes only where its count rose
abbrev pub IsAnswer : ℕ → ℕ → ℕ → ℕ → ℕ → ℕ → ℕ → Type 0
IsAnswer folder_before folder_now input_before input_now out_before out_now answer =
    (answer ≡ 0)
    ⊎ ((answer ≡ 12)
    ⊎ (((answer ≡ 13) × Rose folder_before folder_now)
    ⊎ (((answer ≡ 14) × Rose out_before out_now)
    ⊎ (((answer ≡ 15) × Rose input_before input_now)
    ⊎ (answer ≡ 16)))))

-- What was read of the input's bytes.
pub record ReadsAsSaid (bytes : List ℕ) (rest : Option (List ℕ)) (answer : ℕ) : Type 0 where
  pub consumed : ConsumesSome (Some bytes) rest
  pub all : answer ≡ 0 → (rest ≡ Some []) × (length bytes ≤ BATCH)
  pub past : answer ≡ 12 → BATCH < length bytes
