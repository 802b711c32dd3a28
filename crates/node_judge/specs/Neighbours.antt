-- Bytes that are in order, one after another.
use Rattle.std.specs.Prelude.{ℕ, Bool, true, not, ◌&&◌, List, [], ◌∷◌, bytes_eq}

-- each is other bytes than the one before it, the first than these
abbrev pub differ_from : List ℕ → List (List ℕ) → Bool
differ_from x [] = true
differ_from x (y ∷ ys) = not (bytes_eq x y) && differ_from y ys

abbrev pub neighbours_differ : List (List ℕ) → Bool
neighbours_differ [] = true
neighbours_differ (x ∷ xs) = differ_from x xs
