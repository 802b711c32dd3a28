-- How many bytes parts of a directory take.
use Rattle.std.specs.Prelude.{ℕ, ◌*◌, List, length, sum_by}

-- the bytes that the intervals of sets take
abbrev pub pairs_size : List (List (ℕ × ℕ)) → ℕ
pairs_size sets = sum_by (λ (ps : List (ℕ × ℕ)). 8 * length ps) sets
