-- The steps that the lines of a batch have the program take.
use Rattle.std.specs.Prelude.{◌≡◌, ◌≢◌, ◌⊎◌, ◌<◌, ℕ, List, [], ◌∷◌, ◌++◌, length, map, nat_lt, MatchBool, Option, Some, None, IsSome, option_and_then, Err, codes, if◌then◌else◌, ⊤}
use Rattle.std.specs.Fmt.{decimal}
use Rattle.std.specs.List.{flat_map}
use Rattle.xa_outside.specs.Folder.{Files}
use Rattle.xarch_words.specs.Commands.{PlainCommand, demo}
use Rattle.xarch_words.specs.Lines.{fault_line, refusal_status}
use Rattle.xarch_words.specs.Refusal as refusal
use Rattle.xarch_words.specs.Refusal.{line, Refusal, usage, damaged, limit, refused}
use Rattle.xarch_words.specs.declared.limits.TheConstants.{DEMO, LINE}
use Rattle.xarch_parts.specs.Outcome.{Step, step_from}
use Rattle.xarch_meanings.specs.Plausible.{Plausible}
use Rattle.xarch_meanings.specs.Meanings.{IsSilent, MayHaveWritten, OnlyReads}
use Rattle.xarch_meanings.specs.Step.{single_of}
use Rattle.xarch_run.specs.Words.{words_of}

-- ---- one line

-- what is no array of strings is refused, and so are the words of a batch
abbrev pub WordsMay : Files → Option (List (List ℕ)) → Step → Type 0
WordsMay files None s = s ≡ step_from files (Err usage)
WordsMay files (Some words) s = Plausible files words s

-- A step that a line may have the program take: the defined one where the archive that it names is absent or sound.
abbrev pub LineMay : Files → List ℕ → Step → Type 0
LineMay files l s = MatchBool (nat_lt LINE (length l)) (s ≡ step_from files (Err (limit line LINE))) (WordsMay files (words_of l) s)

-- ---- one line, whatever the folder tells

-- the step is that of a refusal, but for its files
pub record RefusesWith (refusal : Refusal) (s : Step) : Type 0 where
  pub output : s.output ≡ []
  pub line : s.line ≡ fault_line (refused refusal)
  pub status : s.status ≡ refusal_status refusal

-- words that are a command are refused for something else than that
pub record RefusesCommand (s : Step) : Type 0 where
  pub refusal : Refusal
  pub other : refusal ≢ usage
  pub is : RefusesWith refusal s

-- some output, and no line
pub record DoesCommand (s : Step) : Type 0 where
  pub line : s.line ≡ []
  pub status : s.status ≡ 0

-- a command met damage while it wrote: some output, and the line and status of that refusal
pub record MeetsDamage (command : PlainCommand) (s : Step) : Type 0 where
  pub may : MayHaveWritten (Some command) s.status
  pub name : List ℕ
  pub line : s.line ≡ fault_line (refused (damaged name))

-- a `demo` of too many documents
abbrev pub IsLongDemo : Option PlainCommand → Type 0
IsLongDemo (Some (demo seed count archive)) = DEMO < count
IsLongDemo other = ⊥

-- What a command answers: it was done, or it was refused, a `get`, a `log` or a `versions` maybe behind output, and a `demo` of too many documents is refused.
pub record CommandAnswers (command : PlainCommand) (s : Step) : Type 0 where
  pub is : DoesCommand s ⊎ (RefusesCommand s ⊎ MeetsDamage command s)
  pub long_demo : IsLongDemo (Some command) → RefusesWith (limit refusal.demo DEMO) s

-- words that are no command by themselves are refused
abbrev pub SpelledAnswers : Option PlainCommand → Step → Type 0
SpelledAnswers None s = RefusesWith usage s
SpelledAnswers (Some command) s = CommandAnswers command s

abbrev pub WordsAnswer : Option (List (List ℕ)) → Step → Type 0
WordsAnswer None s = RefusesWith usage s
WordsAnswer (Some words) s = SpelledAnswers (single_of words) s

-- What a line answers, whatever the folder tells: output, line and status of a step, and nothing of its files.
abbrev pub LineAnswers : List ℕ → Step → Type 0
LineAnswers l s = MatchBool (nat_lt LINE (length l)) (RefusesWith (limit line LINE) s) (WordsAnswer (words_of l) s)

-- ---- its command

-- the command that a line of a batch spells, if it is not too long and spells one
abbrev pub line_command : List ℕ → Option PlainCommand
line_command l = if nat_lt LINE (length l) then None else option_and_then single_of (words_of l)

-- It may end in a fault of the outside, or in want of memory: the line spells a command, and no `demo` of too many documents.
pub record MayFault (l : List ℕ) : Type 0 where
  pub command : IsSome (line_command l)
  pub short : ¬ IsLongDemo (line_command l)

-- the line spells a command, and none of those that print nothing
abbrev pub MayPrint : List ℕ → Type 0
MayPrint l = ¬ IsSilent (line_command l)

-- its step makes no file: it was refused, or the command only reads
abbrev pub MakesNone : List ℕ → Step → Type 0
MakesNone l s = (s.status ≢ 0) ⊎ OnlyReads (line_command l)

-- ---- what a line writes

unfoldable pub status_line : ℕ → List ℕ
status_line status = codes "status " ++ decimal status ++ codes "\n"

-- what a step writes in a batch
abbrev pub turn_text : Step → List ℕ
turn_text s = s.output ++ status_line s.status

-- ---- all lines

-- one step for each line, each from the files that the one before left
abbrev pub StepsAre : Files → List (List ℕ) → List Step → Type 0
StepsAre files [] [] = ⊤
StepsAre files [] (s ∷ ss) = ⊥
StepsAre files (l ∷ ls) [] = ⊥
StepsAre files (l ∷ ls) (s ∷ ss) = LineMay files l s × StepsAre s.files ls ss

-- each line answers as it may, whatever the folder tells
abbrev pub AllAnswer : List (List ℕ) → List Step → Type 0
AllAnswer [] [] = ⊤
AllAnswer [] (s ∷ ss) = ⊥
AllAnswer (l ∷ ls) [] = ⊥
AllAnswer (l ∷ ls) (s ∷ ss) = LineAnswers l s × AllAnswer ls ss

-- no step makes a file
abbrev pub AllMakeNone : List (List ℕ) → List Step → Type 0
AllMakeNone [] ss = ⊤
AllMakeNone (l ∷ ls) [] = ⊤
AllMakeNone (l ∷ ls) (s ∷ ss) = MakesNone l s × AllMakeNone ls ss

-- the files that the last one left
abbrev pub files_after : Files → List Step → Files
files_after files [] = files
files_after files (s ∷ ss) = files_after s.files ss

-- It holds of the files before and now, where both are told.
abbrev pub IfTold : Option Files → Option Files → (Files → Files → Type 0) → Type 0
IfTold before now P = (f g : Files) → before ≡ Some f → now ≡ Some g → P f g

-- the lines took these steps from the files before, and the last one left those that are there now
pub record LinesLead (before : Files) (lines : List (List ℕ)) (steps : List Step) (now : Files) : Type 0 where
  pub are : StepsAre before lines steps
  pub files : now ≡ files_after before steps

-- Each line answered as it may. Where files are told, each step was taken from the files that the one before left. Where no
-- step made a file, files are as before, and are told if they were.
pub record AreSteps (before now : Option Files) (lines : List (List ℕ)) (steps : List Step) : Type 0 where
  pub answers : AllAnswer lines steps
  pub leads : IfTold before now (λ f g. LinesLead f lines steps g)
  pub kept : AllMakeNone lines steps → now ≡ before

-- the step of one line from the files before
pub record IsStep (before now : Option Files) (l : List ℕ) (s : Step) : Type 0 where
  pub answers : LineAnswers l s
  pub may : IfTold before now (λ f g. LineMay f l s)
  pub kept : MakesNone l s → now ≡ before

-- what they write, and the lines that they say
abbrev pub outs : List Step → List ℕ
outs steps = flat_map turn_text steps

abbrev pub lines_said : List Step → List (List ℕ)
lines_said steps = map (λ s. s.line) steps
