-- What stands behind a value that was read.
use Rattle.std.specs.Prelude.{ℕ, List, Option, option_map}

abbrev pub behind : {A : Type 0} → Option (A × List ℕ) → Option (List ℕ)
behind read = option_map (λ x. x.1) read
