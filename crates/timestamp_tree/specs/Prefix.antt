-- Appending a prefix.
use Rattle.std.specs.Prelude.{◌≡◌, ℕ, List, ◌++◌, take}

-- the first of these were appended
pub record AppendsPrefix (old new all : List ℕ) : Type 0 where
  pub count : ℕ
  pub is : new ≡ old ++ take count all
