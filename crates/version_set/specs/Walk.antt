-- What the walks over lists of intervals keep.
use Rattle.std.specs.Prelude.{◌≡◌, ℕ, ◌+◌, ◌≤◌, ◌||◌, ◌&&◌, max, min, List, [], ◌∷◌}
use Rattle.version_set.specs.Pairs.{IsCanonical}
use Rattle.version_set.specs.Members.{numbers, members, has}

-- where the last interval begins, or 1
abbrev pub start_of : List (ℕ × ℕ) → ℕ
start_of [] = 1
start_of (p ∷ []) = p.0
start_of (p ∷ q ∷ ps) = start_of (q ∷ ps)

-- the numbers of one more interval were added, and no interval begins behind it
pub record Joins (old : List (ℕ × ℕ)) (pair : ℕ × ℕ) (new : List (ℕ × ℕ)) : Type 0 where
  pub canonical : IsCanonical new
  pub start : start_of new ≤ pair.0
  pub numbers : (n : ℕ) → has (members new) n ≡ (has (members old) n || has (numbers pair) n)

-- where the next interval may begin
abbrev pub end_of : List (ℕ × ℕ) → ℕ
end_of [] = 1
end_of (p ∷ []) = p.1 + 2
end_of (p ∷ q ∷ ps) = end_of (q ∷ ps)

-- the numbers that are in both intervals were added
pub record Shares (old : List (ℕ × ℕ)) (our their : ℕ × ℕ) (new : List (ℕ × ℕ)) : Type 0 where
  pub canonical : IsCanonical new
  pub end : end_of new ≤ max (end_of old) (min our.1 their.1 + 2)
  pub numbers : (n : ℕ) → has (members new) n ≡ (has (members old) n || (has (numbers our) n && has (numbers their) n))

-- all has the numbers of either
abbrev pub IsUnion : List (ℕ × ℕ) → List (ℕ × ℕ) → List (ℕ × ℕ) → Type 0
IsUnion ours theirs all = (n : ℕ) → has (members all) n ≡ (has (members ours) n || has (members theirs) n)

-- both has the numbers that both have
abbrev pub IsMeet : List (ℕ × ℕ) → List (ℕ × ℕ) → List (ℕ × ℕ) → Type 0
IsMeet ours theirs both = (n : ℕ) → has (members both) n ≡ (has (members ours) n && has (members theirs) n)
