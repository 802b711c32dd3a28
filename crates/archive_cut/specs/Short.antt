-- Sets that are left of those of few bytes.
use Rattle.std.specs.Prelude.{◌≡◌, ℕ, ◌≤◌, List, length}
use Rattle.timestamp_tree.specs.Bytes.{set_bytes}
use Rattle.archive_cut.specs.Sliced.{cut_set}

-- what is left of a set that takes at most so many bytes
abbrev pub IsLeftOf : ℕ → ℕ → ℕ → List (ℕ × ℕ) → Type 0
IsLeftOf b i j q = (p : List (ℕ × ℕ)) × (length (set_bytes p) ≤ b) × (q ≡ cut_set i j p)
