-- What a command did to the folder and the output that it was given, whatever the folder tells.
use Rattle.std.specs.Prelude.{◌≡◌, ℕ, List, Option, Some}
use Rattle.xa_outside.specs.Folder.{Files}
use Rattle.xa_outside.specs.Numbers.{Numbers}
use Rattle.xa_outside.specs.Taken.{Taken}
use Rattle.xarch_words.specs.Commands.{PlainCommand}
use Rattle.xarch_words.specs.Refusal.{PlainFault, folder_fault}
use Rattle.xarch_parts.specs.Allowed.{MayEndLate}
use Rattle.xarch_parts.specs.Ends.{IsCaused}
use Rattle.xarch_parts.specs.Folders.{Keeps}
use Rattle.xarch_meanings.specs.Meanings.{ByWords, CountsAsSaid, GainsBy, GoesOnce, MayBe, MayComeLate, ReadsLittle, made_name}

-- The command was done to the folder, which was `s` before and is `t` now, and to an output that had taken `old` and has taken `new`, and whose count of
-- faults was `before` and is `now`. It ended without a fault, or by this one.
pub record Performs {S : Type 0} (files : S → Option Files) (draft : S → Option (List ℕ)) (numbers : S → Numbers) (faults : S → ℕ)
    (command : PlainCommand) (s t : S) (old new : Taken) (before now : ℕ) (ended : Option PlainFault) : Type 0 where
  -- files and draft stay as they should, and it pulls and drafts what is said of the command
  pub keeps : Keeps files draft numbers (made_name command) (CountsAsSaid (Some command) (files s)) s t ended
  -- a fault of the outside has its cause
  pub caused : IsCaused (faults s) (faults t) before now ended
  -- where files are told, it ended as it may
  pub may : (told : Files) → files s ≡ Some told → MayEndLate (MayComeLate told (Some command)) (MayBe told command) ended (files t) old new
  -- what its words alone refuse is refused, whatever the folder tells
  pub by_words : ByWords (Some command) ended
  pub one_pass : GoesOnce (Some command) (files s) (numbers s) (numbers t) (ended ≡ Some folder_fault)
  pub little : ReadsLittle (Some command) (files s) (numbers s) (numbers t)
  pub gained : GainsBy (Some command) ended old new
