-- Where the parts of a tree stand in its bytes.
use Rattle.std.specs.Prelude.{◌≡◌, ℕ, ◌+◌, ◌*◌, List, length, take, drop}
use Rattle.timestamp_tree.specs.Data.{PlainTs, node}
use Rattle.timestamp_tree.specs.Bytes.{stored, tree_bytes}

-- The node's own bytes come first, then the left part, and the right part behind that.
pub record StandParts (s : List (ℕ × ℕ)) (n : ℕ) (l r : PlainTs) : Type 0 where
  pub own : take (12 + 8 * length s) (tree_bytes (node s n l r)) ≡ stored s n
  pub left : take (length (tree_bytes l)) (drop (12 + 8 * length s) (tree_bytes (node s n l r))) ≡ tree_bytes l
  pub right : drop (12 + 8 * length s + length (tree_bytes l)) (tree_bytes (node s n l r)) ≡ tree_bytes r
