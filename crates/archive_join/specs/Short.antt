-- Sets that are made of those of both archives.
use Rattle.std.specs.Prelude.{◌≡◌, ◌≤◌, ℕ, List, [], length, Some, None, ⊤}
use Rattle.timestamp_tree.specs.Bytes.{set_bytes}
use Rattle.version_set.specs.Members.{united}
use Rattle.archive_tree.specs.Data.{Stamp}
use Rattle.record_copy.specs.Raised.{raised}

-- a set of the first and one of the second with n more in each number, as far as there are such
abbrev pub of_both : ℕ → Stamp → Stamp → List (ℕ × ℕ)
of_both n None None = []
of_both n (Some p) None = p
of_both n None (Some q) = raised n q
of_both n (Some p) (Some q) = united p (raised n q)

-- where there is such a set, it takes at most so many bytes
abbrev pub IsFew : ℕ → Stamp → Type 0
IsFew b None = ⊤
IsFew b (Some p) = length (set_bytes p) ≤ b

-- it is made of one or two sets that take at most so many bytes
abbrev pub IsMadeOf : ℕ → ℕ → List (ℕ × ℕ) → Type 0
IsMadeOf b n s = (p q : Stamp) × IsFew b p × IsFew b q × (s ≡ of_both n p q)
