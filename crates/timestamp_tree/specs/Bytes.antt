-- Sets and trees as bytes.
use Rattle.std.specs.Prelude.{ℕ, List, ◌++◌}
use Rattle.xa_fields.specs.Spelling.{u32_bytes, u64_bytes, list_bytes}
use Rattle.timestamp_tree.specs.Data.{PlainTs, leaf, node}

abbrev pub pair_bytes : ℕ × ℕ → List ℕ
pair_bytes p = u32_bytes p.0 ++ u32_bytes p.1

-- the number of intervals, and the intervals
abbrev pub set_bytes : List (ℕ × ℕ) → List ℕ
set_bytes ps = list_bytes pair_bytes ps

-- a node without its parts: its set, and the byte size of its left part
abbrev pub stored : List (ℕ × ℕ) → ℕ → List ℕ
stored s n = set_bytes s ++ u64_bytes n

-- the node, the left part and the right part
abbrev pub tree_bytes : PlainTs → List ℕ
tree_bytes (leaf s) = stored s 0
tree_bytes (node s n l r) = stored s n ++ (tree_bytes l ++ tree_bytes r)
