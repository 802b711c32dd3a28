-- A command that should succeed is not refused.
use Rattle.std.proofs.Common.{◌≡◌, ◌⊎◌, inl, inr, ℕ, List, Option, Some, None, Err, refl, subst}
use Rattle.xa_outside.specs.Causes.{Rose}
use Rattle.xa_outside.specs.Folder.{Files}
use Rattle.xa_outside.specs.Taken.{Taken}
use Rattle.xarch_words.specs.Commands.{PlainCommand, command_of}
use Rattle.xarch_words.specs.Refusal.{Refusal, PlainFault, refused, folder_fault, out_fault, in_fault, memory}
use Rattle.xarch_parts.specs.Ends.{HasItsCause}
use Rattle.xarch_parts.specs.Allowed.{MayEnd, MayEndLate}
use Rattle.xarch_meanings.specs.Meanings.{MayBe, MayComeLate, MayDo, ShouldSucceed}
use Rattle.xarch_meanings.specs.Ran.{status_after}
use Rattle.xarch_meanings.specs.Step.{alone, single_of}
use Rattle.xarch_run.proofs.Running.{late-end}

-- From what is known of commands that should succeed: none is refused, and each is one by itself.
module _ (never : (files : Files) (command : PlainCommand) (q : Refusal) → ShouldSucceed files command → ¬ MayBe files command (Err q))
    (single : (files : Files) (command : PlainCommand) → ShouldSucceed files command → alone (Some command) ≡ Some command) where
  spelled : (files : Files) (command : PlainCommand) (q : Refusal) → ShouldSucceed files command → ¬ MayDo files (alone (Some command)) (Err q)
  spelled files command q h m = never files command q h (subst (λ (o : Option PlainCommand). MayDo files o (Err q)) (single files command h) m)

  -- so the answer is 0, or want of memory, where no count rose
  succeeds-end : (files : Files) (words : List (List ℕ)) (command : PlainCommand) (e : Option PlainFault) (after : Option Files) (old new : Taken) (a b c d : ℕ) → command_of words ≡ Some command
      → ShouldSucceed files command → MayEnd (MayDo files (single_of words)) e after old new → HasItsCause a b c d e → ¬ Rose a b → ¬ Rose c d → (status_after e ≡ 0) ⊎ (status_after e ≡ 16)
  unfolding MayEnd HasItsCause
  succeeds-end files words command None after old new a b c d is should ends cause folder out = inl refl
  succeeds-end files words command (Some (refused r)) after old new a b c d is should ends cause folder out =
      absurd (spelled files command r should (subst (λ (o : Option PlainCommand). MayDo files (alone o) (Err r)) is ends.may))
  succeeds-end files words command (Some folder_fault) after old new a b c d is should ends cause folder out = absurd (folder cause)
  succeeds-end files words command (Some out_fault) after old new a b c d is should ends cause folder out = absurd (out cause)
  succeeds-end files words command (Some in_fault) after old new a b c d is should ends cause folder out = absurd cause
  succeeds-end files words command (Some memory) after old new a b c d is should ends cause folder out = inr refl

  pub succeeds-from : (files : Files) (words : List (List ℕ)) (command : PlainCommand) (e : Option PlainFault) (after : Option Files) (old new : Taken) (a b c d : ℕ) → command_of words ≡ Some command
      → ShouldSucceed files command → MayEndLate (MayComeLate files (single_of words)) (MayDo files (single_of words)) e after old new → HasItsCause a b c d e → ¬ Rose a b → ¬ Rose c d → (status_after e ≡ 0) ⊎ (status_after e ≡ 16)
  succeeds-from files words command e after old new a b c d is should ends cause folder out =
      let plain = late-end (MayComeLate files (single_of words)) (MayDo files (single_of words)) e after old new ends in
      succeeds-end files words command e after old plain.0 a b c d is should plain.1 cause folder out
