-- A set and a node of a tree at the front of some bytes, and the bytes behind them.
use Rattle.std.specs.Prelude.{ℕ, ◌+◌, ◌&&◌, List, length, Option, Some, None, nat_le, nat_lt, if◌then◌else◌}
use Rattle.std.specs.Int.{w32, w64}
use Rattle.xa_fields.specs.Reading.{Reader, number_at, both_at, chained_at, only_at}

abbrev pub pair_at : Reader (ℕ × ℕ)
pair_at = both_at (number_at w32) (number_at w32)

-- an interval of numbers up to `most` may begin at low or later, and the next one behind a number that is left out
abbrev pub next_pair : ℕ → ℕ → ℕ × ℕ → Option ℕ
next_pair most low p = if nat_le low p.0 && nat_le p.0 p.1 && nat_le p.1 most then Some (p.1 + 2) else None

-- the intervals of a set of numbers from 1 to `most`
abbrev pub set_at : ℕ → Reader (List (ℕ × ℕ))
set_at most = chained_at pair_at (next_pair most) 1

-- a node without its parts: such a set, and the byte size of its left part, which may be any number
abbrev pub stored_at : ℕ → Reader (List (ℕ × ℕ) × ℕ)
stored_at most = both_at (set_at most) (number_at w64)

-- such a node whose set is not empty
abbrev pub some_stored_at : ℕ → Reader (List (ℕ × ℕ) × ℕ)
some_stored_at most = only_at (λ node. nat_lt 0 (length node.0)) (stored_at most)
