-- What a call does for the words of one command.
use Rattle.std.specs.Prelude.{◌≡◌, ◌≢◌, ◌↔◌, ◌⊎◌, ◌≤◌, ℕ, List, Option, Some, None}
use Rattle.xa_outside.specs.Causes.{Rose}
use Rattle.xa_outside.specs.Folder.{Files}
use Rattle.xa_outside.specs.Numbers.{Numbers}
use Rattle.xa_outside.specs.Taken.{Taken, TakesNone}
use Rattle.xarch_words.specs.Commands.{PlainCommand, command_of}
use Rattle.xarch_words.specs.Refusal as refusal
use Rattle.xarch_words.specs.Refusal.{PlainFault, folder_fault}
use Rattle.xarch_parts.specs.Ends.{Gained, HasItsCause}
use Rattle.xarch_parts.specs.Folders.{IsTold}
use Rattle.xarch_parts.specs.Outcome.{Step}
use Rattle.xarch_meanings.specs.Meanings.{ByWords, CountsAsSaid, FillsUp, GoesOnce, IsLimited, IsSilent, MayHaveWritten, OnlyReads, ReadsLittle, ShouldSucceed}
use Rattle.xarch_meanings.specs.Plausible.{Tried, Wrote}
use Rattle.xarch_meanings.specs.Ran.{line_after, outside_of, Ran, Says, status_after}
use Rattle.xarch_meanings.specs.Step.{StepIs, single_of}

-- The command that the words spell by themselves was done, or they spell none and are refused. The folder was `f` before and is `g` now, the output `o` and
-- `p`, the error sink `e` and `r`. Of the three it is seen what files and draft the folder tells, what was pulled and drafted, what was taken, and how often
-- each has failed.
pub record StepTaken {F O E : Type 0} (told_files : F → Option Files) (told_draft : F → Option (List ℕ)) (numbers : F → Numbers) (faults : F → ℕ)
    (taken : O → Taken) (out_faults : O → ℕ) (spoken : E → Taken) (err_faults : E → ℕ)
    (words : List (List ℕ)) (f g : F) (o p : O) (e r : E) (answer : ℕ) : Type 0 where
  -- the fault with which it ended, if any: its status is answered, and its line said
  pub ended : Option PlainFault
  pub status : answer ≡ status_after ended
  pub line : Says (spoken e) (spoken r) (err_faults e) (err_faults r) (line_after ended)
  -- When a fault comes, whatever the folder tells. What the words alone refuse is refused; a fault of folder or output has its cause, and a command that
  -- prints nothing has none of the output, which it leaves as it was.
  pub usage : (ended ≡ Some (refusal.refused refusal.usage)) ↔ (single_of words ≡ None)
  pub by_words : ByWords (single_of words) ended
  pub cause : HasItsCause (faults f) (faults g) (out_faults o) (out_faults p) ended
  pub silent : IsSilent (single_of words) → answer ≢ 14
  pub untouched : IsSilent (single_of words) → p ≡ o
  -- Where files are told: one of the steps that the words may have the program take, and the one that is defined where each archive that they name is absent
  -- or sound. Status, files, output and line are that step's, but after a fault of the outside, which leaves a prefix of its output.
  pub tried : (files : Files) → told_files f ≡ Some files → outside_of answer ≡ None
      → Tried files words answer (told_files g) (taken o) (taken p) (spoken e) (spoken r) (err_faults e) (err_faults r)
  pub wrote : (files : Files) → told_files f ≡ Some files → Wrote files words (taken o) (taken p)
  -- What should succeed does, in conditions on the files. Where no count of faults rises, as over objects that never fail, what comes is the defined step
  -- whole, or want of memory; so a step that is defined with status 0 answers 0 or 16.
  pub succeeds : (files : Files) (command : PlainCommand) → told_files f ≡ Some files → command_of words ≡ Some command → ShouldSucceed files command
      → ¬ Rose (faults f) (faults g) → ¬ Rose (out_faults o) (out_faults p) → (answer ≡ 0) ⊎ (answer ≡ 16)
  pub steady : (files : Files) (s : Step) → told_files f ≡ Some files → StepIs files words s → ¬ Rose (faults f) (faults g) → ¬ Rose (out_faults o) (out_faults p)
      → (answer ≡ 16) ⊎ Ran s answer (told_files g) (taken o) (taken p) (spoken e) (spoken r) (err_faults e) (err_faults r)
  -- Whatever the folder tells, the output only gains, and nothing after a refusal, but for a `get`, a `log` or a `versions` that meets damage while it writes.
  pub gained : Gained (taken o) (taken p)
  pub nothing : answer ≢ 0 → outside_of answer ≡ None → ¬ MayHaveWritten (single_of words) answer → TakesNone (taken o) (taken p)
  -- What stays: all files after a fault, files and draft where the command only reads. What is told stays told, and what is not told stays untold.
  pub refused : answer ≢ 0 → told_files g ≡ told_files f
  pub files : OnlyReads (single_of words) → told_files g ≡ told_files f
  pub draft : OnlyReads (single_of words) → told_draft g ≡ told_draft f
  pub told : IsTold (told_files f) (told_draft f) → IsTold (told_files g) (told_draft g)
  pub untold : told_files f ≡ None → told_files g ≡ None
  pub draft_untold : told_draft f ≡ None → told_draft g ≡ None
  -- What is pulled and drafted. Over a sound archive `add` goes once, and little of it is read that is not yet written, and `join` goes once over any; over
  -- any, what `add`, `cut` or `join` makes is too long only where one more record does not fit behind the draft; and of a sound one `get` and `history` pull
  -- only what their searches look at, and `log` that and the leaf.
  pub counts : CountsAsSaid (single_of words) (told_files f) (numbers f) (numbers g)
  pub one_pass : GoesOnce (single_of words) (told_files f) (numbers f) (numbers g) (ended ≡ Some folder_fault)
  pub fills : FillsUp (single_of words) (told_files f) (told_draft g) (IsLimited ended)
  pub little : ReadsLittle (single_of words) (told_files f) (numbers f) (numbers g)
  -- no count of faults falls
  pub folder_later : faults f ≤ faults g
  pub out_later : out_faults o ≤ out_faults p
  pub err_later : err_faults e ≤ err_faults r
