-- The sets of a row's children, by their places.
use Rattle.std.specs.Prelude.{◌≡◌, ◌⊎◌, ◌-◌, ◌<◌, ℕ, zero, suc, max, List, [], ◌∷◌, length}
use Rattle.version_set.specs.View.{pairs_of}
use Rattle.version_set.specs.declared.set.VersionSet.{VersionSet}

-- the set at this place, where there is one
abbrev pub set_at : List VersionSet → ℕ → List (ℕ × ℕ)
set_at [] n = []
set_at (s ∷ ss) zero = pairs_of s
set_at (s ∷ ss) (suc n) = set_at ss n

-- the set is the first of these, or the last
abbrev pub IsAtEnd : List VersionSet → List (ℕ × ℕ) → Type 0
IsAtEnd sets set = (0 < length sets) × ((set_at sets 0 ≡ set) ⊎ (set_at sets (length sets - 1) ≡ set))

-- the first number above all of these
abbrev pub above : List ℕ → ℕ
above [] = 0
above (p ∷ ps) = max (suc p) (above ps)
