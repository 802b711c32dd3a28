-- What is left of intervals, and of stamps under a parent of which a set is left.
use Rattle.std.specs.Prelude.{ℕ, ◌+◌, ◌-◌, max, min, nat_le, List, [], ◌∷◌, Option, Some, None, if◌then◌else◌}
use Rattle.version_set.specs.Members.{members}
use Rattle.archive_tree.specs.Data.{Stamp, PlainAlt}
use Rattle.archive_tree.specs.PartsTest.{is_none}
use Rattle.archive_cut.specs.Sliced.{cut_set, stamp_under}

-- the interval of an interval's numbers from i to j, counted from i, if there are any
abbrev pub cut_pair : ℕ → ℕ → ℕ × ℕ → List (ℕ × ℕ)
cut_pair i j p = if nat_le (max p.0 i) (min p.1 j) then (max p.0 i + 1 - i, min p.1 j + 1 - i) ∷ [] else []

-- the set that is left where the stamp was, where now is left of the parent's
abbrev pub set_left : ℕ → ℕ → List (ℕ × ℕ) → Stamp → List (ℕ × ℕ)
set_left i j now None = now
set_left i j now (Some s) = cut_set i j s

-- the stamp that is left, or None where no number is
abbrev pub stamp_left : ℕ → ℕ → List (ℕ × ℕ) → Stamp → Option Stamp
stamp_left i j now s = if is_none (members (set_left i j now s)) then None else Some (stamp_under now (set_left i j now s))

-- the alternative that is left, or None
abbrev pub alt_left : ℕ → ℕ → List (ℕ × ℕ) → PlainAlt → Option PlainAlt
alt_left i j now a = if is_none (members (set_left i j now a.stamp)) then None else Some (record { stamp = stamp_under now (set_left i j now a.stamp); body = a.body })
