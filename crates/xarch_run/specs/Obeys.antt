-- What was done for some words, whatever the folder tells.
use Rattle.std.specs.Prelude.{◌≡◌, ◌≢◌, ◌↔◌, ◌≤◌, ℕ, List, Option, Some, None, IsSome}
use Rattle.xa_outside.specs.Folder.{Files}
use Rattle.xa_outside.specs.Numbers.{Numbers}
use Rattle.xa_outside.specs.Taken.{Taken}
use Rattle.xarch_words.specs.Commands.{PlainCommand}
use Rattle.xarch_words.specs.Refusal as refusal
use Rattle.xarch_words.specs.Refusal.{PlainFault, folder_fault, out_fault, refused}
use Rattle.xarch_parts.specs.Allowed.{MayEndLate}
use Rattle.xarch_parts.specs.Ends.{HasItsCause}
use Rattle.xarch_parts.specs.Folders.{IsTold}
use Rattle.xarch_meanings.specs.Meanings.{ByWords, CountsAsSaid, FillsUp, GainsBy, GoesOnce, IsLimited, IsSilent, MayComeLate, MayDo, OnlyReads, ReadsLittle}

-- The command that the words spell by themselves was done, or they spell none and are refused. The folder was `s` before and is `t` now, the output had
-- taken `old` and has taken `new`, and its count of faults was `before` and is `now`.
pub record Obeys {S : Type 0} (files : S → Option Files) (draft : S → Option (List ℕ)) (numbers : S → Numbers) (faults : S → ℕ)
    (c : Option PlainCommand) (s t : S) (old new : Taken) (before now : ℕ) (ended : Option PlainFault) : Type 0 where
  pub usage : (ended ≡ Some (refused refusal.usage)) ↔ (c ≡ None)
  pub by_words : ByWords c ended
  pub cause : HasItsCause (faults s) (faults t) before now ended
  pub folder_later : faults s ≤ faults t
  pub out_later : before ≤ now
  pub may : (told : Files) → files s ≡ Some told → MayEndLate (MayComeLate told c) (MayDo told c) ended (files t) old new
  pub refused_same : IsSome ended → files t ≡ files s
  pub untold : files s ≡ None → files t ≡ None
  pub draft_untold : draft s ≡ None → draft t ≡ None
  pub still_told : IsTold (files s) (draft s) → IsTold (files t) (draft t)
  pub same_files : OnlyReads c → files t ≡ files s
  pub same_draft : OnlyReads c → draft t ≡ draft s
  pub counts : CountsAsSaid c (files s) (numbers s) (numbers t)
  pub one_pass : GoesOnce c (files s) (numbers s) (numbers t) (ended ≡ Some folder_fault)
  pub little : ReadsLittle c (files s) (numbers s) (numbers t)
  pub gained : GainsBy c ended old new
  pub fills : FillsUp c (files s) (draft t) (IsLimited ended)
  pub silent : IsSilent c → ended ≢ Some out_fault
