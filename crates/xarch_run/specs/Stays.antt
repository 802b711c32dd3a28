-- What a call leaves of a folder, whatever it does.
use Rattle.std.specs.Prelude.{◌≡◌, ◌≤◌, ℕ, List, Option, None}
use Rattle.xa_outside.specs.Folder.{Files}
use Rattle.xarch_parts.specs.Folders.{IsTold}

-- What was not told is not told, files and draft that were told are told, and the count of faults does not fall.
pub record Stays {F : Type 0} (files : F → Option Files) (draft : F → Option (List ℕ)) (faults : F → ℕ) (old new : F) : Type 0 where
  pub untold : files old ≡ None → files new ≡ None
  pub draft_untold : draft old ≡ None → draft new ≡ None
  pub told : IsTold (files old) (draft old) → IsTold (files new) (draft new)
  pub later : faults old ≤ faults new
