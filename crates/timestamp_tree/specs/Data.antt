-- Trees over sets, as plain data.
use Rattle.std.specs.Prelude.{ℕ, suc, max, List, [], ◌∷◌, ◌++◌}

-- a leaf with the intervals of a set, or a node with those of the union of its two parts and the byte size of its left part
pub data PlainTs : Type 0 where
  leaf : List (ℕ × ℕ) → PlainTs
  node : List (ℕ × ℕ) → ℕ → PlainTs → PlainTs → PlainTs

-- the set of a tree
abbrev pub top : PlainTs → List (ℕ × ℕ)
top (leaf s) = s
top (node s n l r) = s

-- the sets of the leaves, from left to right
abbrev pub leaves : PlainTs → List (List (ℕ × ℕ))
leaves (leaf s) = s ∷ []
leaves (node s n l r) = leaves l ++ leaves r

abbrev pub height : PlainTs → ℕ
height (leaf s) = 0
height (node s n l r) = suc (max (height l) (height r))
