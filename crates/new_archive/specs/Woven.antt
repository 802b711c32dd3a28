-- A row with new nodes, each before the node at its place.
use Rattle.std.specs.Prelude.{ℕ, ◌-◌, ◌≤◌, List, [], ◌∷◌, ◌++◌, take, drop}

-- what stands from a place on, with what is new among it
abbrev pub woven : {X : Type 0} → ℕ → List X → List (ℕ × X) → List X
woven at xs [] = xs
woven at xs (f ∷ fs) = take (f.0 - at) xs ++ f.1 ∷ woven f.0 (drop (f.0 - at) xs) fs

-- the places ascend, from a first to a last one
abbrev pub ArePlaced : {X : Type 0} → ℕ → ℕ → List (ℕ × X) → Type 0
ArePlaced low high [] = low ≤ high
ArePlaced low high (f ∷ fs) = (low ≤ f.0) × ArePlaced f.0 high fs
