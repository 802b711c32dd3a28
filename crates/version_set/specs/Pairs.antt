-- Lists of intervals, each a pair of its first and its last number.
use Rattle.std.specs.Prelude.{ℕ, ◌+◌, ◌≤◌, List, [], ◌∷◌, ⊤}
use Rattle.std.specs.Coded.{Unit-prop, le_prop}

-- the intervals begin at low or later, and behind each at least one number is left out
abbrev pub IsFrom : ℕ → List (ℕ × ℕ) → Type 0
IsFrom low [] = ⊤
IsFrom low (p ∷ ps) = (low ≤ p.0) × (p.0 ≤ p.1) × IsFrom (p.1 + 2) ps

-- ascending intervals of numbers from 1 on, no two of which touch
abbrev pub IsCanonical : List (ℕ × ℕ) → Type 0
IsCanonical ps = IsFrom 1 ps

-- the greatest number, 0 where there is none
abbrev pub last_of : List (ℕ × ℕ) → ℕ
last_of [] = 0
last_of (p ∷ []) = p.1
last_of (p ∷ q ∷ ps) = last_of (q ∷ ps)

pub IsFrom-prop : (low : ℕ) (ps : List (ℕ × ℕ)) → IsProp (IsFrom low ps)
IsFrom-prop low [] = Unit-prop
IsFrom-prop low (p ∷ ps) = hlevel (le_prop, IsFrom-prop (p.1 + 2) ps)
