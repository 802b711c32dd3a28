-- What is pulled of a part of a file, and what may still be.
use Rattle.std.specs.Prelude.{◌≡◌, ◌≤◌, ◌+◌, ℕ}
use Rattle.xa_outside.specs.Numbers.{Numbers, after_pull}

-- bytes were pulled, and with others that are left no more than there is room for
pub record PullsBut (room left : ℕ) (old new : Numbers) : Type 0 where
  pub count : ℕ
  pub within : count + left ≤ room
  pub pulled : new ≡ after_pull old count
