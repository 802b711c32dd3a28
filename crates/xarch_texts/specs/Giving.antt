-- What a call does that only reads from a folder and gives something.
use Rattle.std.specs.Prelude.{◌≡◌, ℕ, List, Option, Some, Result, IfOk, IfErr}
use Rattle.xa_outside.specs.Folder.{Files}
use Rattle.xa_outside.specs.Numbers.{Numbers}
use Rattle.xarch_words.specs.Refusal.{Refusal, refused}
use Rattle.xarch_words.specs.View.{fault_view}
use Rattle.xarch_words.specs.declared.fault.Fault.{Fault}
use Rattle.xarch_parts.specs.Ends.{fault_of}
use Rattle.xarch_parts.specs.Folders.{ReadsOnly}

-- At most so many bytes are pulled. Where files are told, what it gives is as is said of them, and so is what it is refused by.
pub record Gives {S T : Type 0} (files : S → Option Files) (draft : S → Option (List ℕ)) (numbers : S → Numbers) (faults : S → ℕ)
    (most : ℕ) (old new : S) (r : Result T Fault) (of_given : Files → T → Type 0) (of_refused : Files → Refusal → Type 0) : Type 0 where
  pub reads : ReadsOnly files draft numbers faults most old new (fault_of r)
  pub given : (told : Files) → files old ≡ Some told → IfOk r (of_given told)
  pub refuses : (told : Files) (q : Refusal) → files old ≡ Some told → IfErr r (λ f. fault_view f ≡ refused q → of_refused told q)
