-- What a search in a tree finds and visits.
use Rattle.std.specs.Prelude.{ℕ, ◌+◌, List, [], ◌∷◌, length, if◌then◌else◌}
use Rattle.version_set.specs.Members.{members, has}
use Rattle.timestamp_tree.specs.Data.{PlainTs, leaf, node}
use Rattle.timestamp_tree.specs.Bytes.{stored}

-- the positions, counted from this one, of the sets that have i
abbrev pub answers_from : ℕ → ℕ → List (List (ℕ × ℕ)) → List ℕ
answers_from i at [] = []
answers_from i at (s ∷ ss) = if has (members s) i then at ∷ answers_from i (at + 1) ss else answers_from i (at + 1) ss

-- the positions, from 0, of the sets that have i
abbrev pub answers : List (List (ℕ × ℕ)) → ℕ → List ℕ
answers sets i = answers_from i 0 sets

-- how many nodes a search for i visits: the root, and both parts of each visited node whose set has i
abbrev pub visits : PlainTs → ℕ → ℕ
visits (leaf s) i = 1
visits (node s n l r) i = if has (members s) i then 1 + visits l i + visits r i else 1

-- the bytes of the nodes that a search for i visits
abbrev pub visited_bytes : PlainTs → ℕ → ℕ
visited_bytes (leaf s) i = length (stored s 0)
visited_bytes (node s n l r) i = if has (members s) i then length (stored s n) + visited_bytes l i + visited_bytes r i else length (stored s n)
