-- What is appended to a draft, while files stay.
use Rattle.std.specs.Prelude.{◌≡◌, ◌≤◌, ℕ, List, ◌++◌, Option, option_map}
use Rattle.xa_outside.specs.Folder.{Files}
use Rattle.xa_outside.specs.Numbers.{Numbers, PullsAndDrafts}

-- Files stay, the draft is extended, and meanwhile at most so many bytes are pulled.
pub record Extends {S : Type 0} (files : S → Option Files) (draft : S → Option (List ℕ)) (numbers : S → Numbers) (faults : S → ℕ) (most : ℕ) (old new : S) : Type 0 where
  pub same_files : files new ≡ files old
  pub bytes : List ℕ
  pub grown : draft new ≡ option_map (λ d. d ++ bytes) (draft old)
  pub counted : PullsAndDrafts most (numbers old) (numbers new)
  pub later : faults old ≤ faults new
