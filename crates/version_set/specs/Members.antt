-- The numbers of a list of intervals, and what is said of ascending lists of numbers.
use Rattle.std.specs.Prelude.{ℕ, ◌+◌, ◌-◌, ◌≤◌, ◌==◌, ◌||◌, Bool, false, List, [], ◌∷◌, ◌++◌, ⊤, nat_lt, if◌then◌else◌, max, filter, ℤ, pos, negsuc, ◌+ℤ◌, ◌≤ℤ◌}
use Rattle.std.specs.List.{range_with_len}
use Rattle.version_set.specs.declared.limits.TheConstants.{GREATEST_NUMBER}

-- the numbers of one interval, from its first to its last
abbrev pub numbers : ℕ × ℕ → List ℕ
numbers p = range_with_len p.0 (p.1 + 1 - p.0)

-- the numbers of the intervals
abbrev pub members : List (ℕ × ℕ) → List ℕ
members [] = []
members (p ∷ ps) = numbers p ++ members ps

-- whether n is one of the numbers
abbrev pub has : List ℕ → ℕ → Bool
has [] n = false
has (m ∷ ms) n = m == n || has ms n

-- each number is at least low, and greater than the one before it
abbrev pub AscendsFrom : ℕ → List ℕ → Type 0
AscendsFrom low [] = ⊤
AscendsFrom low (n ∷ ns) = (low ≤ n) × AscendsFrom (n + 1) ns

-- n in front of later intervals
abbrev pub before : ℕ → List (ℕ × ℕ) → List (ℕ × ℕ)
before n [] = (n, n) ∷ []
before n (p ∷ ps) = if n + 1 == p.0 then (n, p.1) ∷ ps else (n, n) ∷ p ∷ ps

-- the fewest intervals that hold these ascending numbers and no others
abbrev pub intervals : List ℕ → List (ℕ × ℕ)
intervals [] = []
intervals (n ∷ ns) = before n (intervals ns)

-- n at its place in an ascending list
abbrev pub put : ℕ → List ℕ → List ℕ
put n [] = n ∷ []
put n (m ∷ ms) = if nat_lt n m then n ∷ m ∷ ms else (if m == n then m ∷ ms else m ∷ put n ms)

-- the ascending list of the numbers that are in one of two
abbrev pub either : List ℕ → List ℕ → List ℕ
either [] ms = ms
either (n ∷ ns) ms = put n (either ns ms)

-- the intervals of the numbers from 1 to n
abbrev pub upto_pairs : ℕ → List (ℕ × ℕ)
upto_pairs n = if n == 0 then [] else (1, n) ∷ []

-- the intervals of the set with n too, where n is greater than its numbers
abbrev pub with_last : List (ℕ × ℕ) → ℕ → List (ℕ × ℕ)
with_last ps n = intervals (members ps ++ n ∷ [])

-- the intervals of the union
abbrev pub united : List (ℕ × ℕ) → List (ℕ × ℕ) → List (ℕ × ℕ)
united ps qs = intervals (either (members ps) (members qs))

-- the intervals of the numbers that are in both
abbrev pub common : List (ℕ × ℕ) → List (ℕ × ℕ) → List (ℕ × ℕ)
common ps qs = intervals (filter (has (members qs)) (members ps))

-- the greatest of the numbers, 0 where there is none
abbrev pub greatest : List ℕ → ℕ
greatest [] = 0
greatest (n ∷ ns) = max n (greatest ns)

-- a number that a set may hold
abbrev pub IsVersion : ℤ → Type 0
IsVersion z = (pos 1 ≤ℤ z) × (z ≤ℤ pos GREATEST_NUMBER)

abbrev pub whole_number : ℤ → ℕ
whole_number (pos n) = n
whole_number (negsuc n) = 0

-- n and by together, where that is not negative
abbrev pub moved : ℤ → ℕ → ℕ
moved by n = whole_number (pos n +ℤ by)

-- an interval with both ends moved
abbrev pub moved_pair : ℤ → ℕ × ℕ → ℕ × ℕ
moved_pair by p = (moved by p.0, moved by p.1)
