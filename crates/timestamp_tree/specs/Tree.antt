-- The tree over a list of sets.
use Rattle.std.specs.Prelude.{◌≡◌, ℕ, zero, suc, ◌+◌, ◌/◌, List, [], ◌∷◌, length, take, drop, nat_le, if◌then◌else◌}
use Rattle.std.specs.Coded.{Coded-set, coded_ℕ, coded×, coded_list}
use Rattle.version_set.specs.Pairs.{IsCanonical, IsFrom-prop}
use Rattle.version_set.specs.Members.{united}
use Rattle.timestamp_tree.specs.Data.{PlainTs, leaf, node, top, leaves}
use Rattle.timestamp_tree.specs.Bytes.{tree_bytes}

-- half of so many, rounded up
abbrev pub half : ℕ → ℕ
half k = (k + 1) / 2

-- the tree with these two parts
abbrev pub joined : PlainTs → PlainTs → PlainTs
joined l r = node (united (top l) (top r)) (length (tree_bytes l)) l r

abbrev pub first_of : List (List (ℕ × ℕ)) → List (ℕ × ℕ)
first_of [] = []
first_of (s ∷ ss) = s

-- the tree over these sets, where it has at most so many levels below its root
abbrev pub tree_within : ℕ → List (List (ℕ × ℕ)) → PlainTs
tree_within zero sets = leaf (first_of sets)
tree_within (suc d) sets = if nat_le (length sets) 1 then leaf (first_of sets) else joined (tree_within d (take (half (length sets)) sets)) (tree_within d (drop (half (length sets)) sets))

-- the tree over these sets: one set is a leaf, and of more the first half, rounded up, makes the left part
abbrev pub tree_of : List (List (ℕ × ℕ)) → PlainTs
tree_of sets = tree_within (length sets) sets

-- the tree is the one over its leaves
abbrev pub IsTree : PlainTs → Type 0
IsTree (leaf s) = IsCanonical s
IsTree (node s n l r) = (s ≡ united (top l) (top r)) × (n ≡ length (tree_bytes l)) × (length (leaves l) ≡ half (length (leaves l) + length (leaves r))) × IsTree l × IsTree r

pub IsTree-prop : (t : PlainTs) → IsProp (IsTree t)
IsTree-prop (leaf s) = IsFrom-prop 1 s
IsTree-prop (node s n l r) = hlevel (Coded-set (coded_list (coded× coded_ℕ coded_ℕ)), Coded-set coded_ℕ, IsTree-prop l, IsTree-prop r)
