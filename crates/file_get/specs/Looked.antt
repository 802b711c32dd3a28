-- What one node of a stored tree says of a part of a row.
use Rattle.std.specs.Prelude.{◌≡◌, ℕ, ◌+◌, ◌-◌, ◌≤◌, ◌<◌, List, [], ◌∷◌, ◌++◌, length, map, take, drop, Bool, true, false, Option, Result, Ok, Err, ⊤}
use Rattle.std.specs.List.{AllByRecursion}
use Rattle.version_set.specs.Members.{members, has}
use Rattle.timestamp_tree.specs.Bytes.{stored}
use Rattle.timestamp_tree.specs.Data.{PlainTs, leaf, node, top}
use Rattle.timestamp_tree.specs.Tree.{tree_of, half}
use Rattle.archive_tree.specs.Data.{PlainNode}
use Rattle.record_parts.specs.Bounds.{IsSet}
use Rattle.record_cursor.specs.Moves.{TellsFront}
use Rattle.record_cursor.specs.declared.fault.CursorFault.{CursorFault}
use Rattle.xa_outside.specs.Folder.{Files}
use Rattle.file_rows.specs.View.{PlainRow}
use Rattle.file_get.specs.Kids.{IsFilled, set_of, has_at}
use Rattle.file_get.specs.Searched.{inner_read, leaf_read}
use Rattle.file_get.specs.Stands.{SpanIs}
use Rattle.file_get.specs.declared.node.Probe.{Probe}
use Rattle.file_get.specs.declared.look.Sight.{Sight}
use Rattle.file_get.specs.declared.look.Sight.TheVariants.{Lacks, Child, Parts}
use Rattle.file_get.specs.declared.span.Span.{Span}

-- Two parts that make up a part of a row.
pub record Halves (span left right : Span) : Type 0 where
  pub some : 1 ≤ right.count
  pub left_some : 1 ≤ left.count
  pub left_count : left.count ≡ half span.count
  pub count : left.count + right.count ≡ span.count
  pub left_position : left.position ≡ span.position
  pub right_position : right.position ≡ span.position + left.count
  pub behind : span.at ≤ left.at
  pub left_ordered : left.at ≤ left.limit
  pub next : right.at ≡ left.limit
  pub right_ordered : right.at ≤ right.limit
  pub limit : right.limit ≡ span.limit

abbrev pub IsLook : Span → Sight → Type 0
IsLook span Lacks = ⊤
IsLook span Child = span.count ≡ 1
IsLook span (Parts l r) = Halves span l r

-- what is seen at the only child of a part
abbrev pub sight_of : Bool → Sight
sight_of true = Child
sight_of false = Lacks

-- how many bytes are read at most
abbrev pub looked : Span → Result Sight CursorFault → ℕ
looked span (Ok Lacks) = span.limit - span.at
looked span (Ok Child) = span.limit - span.at
looked span (Ok (Parts l r)) = l.at - span.at
looked span (Err e) = span.limit - span.at

-- the bytes of a node without its parts
abbrev pub own_bytes : PlainTs → ℕ
own_bytes (leaf s) = length (stored s 0)
own_bytes (node s n l r) = length (stored s n)

-- those of them that are read
abbrev pub own_read : PlainTs → ℕ
own_read (leaf s) = leaf_read (length s)
own_read (node s n l r) = inner_read (length s)

-- the byte size of its left part, 0 of a leaf
abbrev pub left_bytes : PlainTs → ℕ
left_bytes (leaf s) = 0
left_bytes (node s n l r) = n

-- what was read is what the node at the front of a tree says of i
pub record NodeOf (i : ℕ) (t : PlainTs) (probe : Probe) : Type 0 where
  pub has : probe.has ≡ has (members (top t)) i
  pub left : probe.left ≡ left_bytes t
  pub size : probe.size ≡ own_bytes t

-- the left part of a node of more sets has some of the bytes behind the node, and not all
abbrev pub IsInnerNode : Span → Probe → Type 0
IsInnerNode span probe = (0 < probe.left) × (span.at + probe.size + probe.left < span.limit)

-- it is answered where this holds, and nowhere else
abbrev pub OkWhere : Result Sight CursorFault → Type 0 → Type 0
OkWhere (Ok sight) P = P
OkWhere (Err e) P = ¬ P

-- the first half of a part, behind a node that ends at `at`, and the rest
abbrev pub left_of : Span → ℕ → ℕ → Span
left_of span at middle = record { at = at; limit = middle; position = span.position; count = half span.count }

abbrev pub right_of : Span → ℕ → Span
right_of span middle = record { at = middle; limit = span.limit; position = span.position + half span.count; count = span.count - half span.count }

-- the tree over the sets of these nodes
abbrev pub tree_over : List (ℕ × ℕ) → List PlainNode → PlainTs
tree_over parent ks = tree_of (map (set_of parent) ks)

-- These nodes are the part of a row.
pub record LookTold (files : Option Files) (name bytes : List ℕ) (end : ℕ) (row : PlainRow) (span : Span) (parent : List (ℕ × ℕ)) (front ks behind : List PlainNode) : Type 0 where
  pub tells : TellsFront files name end bytes
  pub within : row.end + (9 + row.dir) ≤ end
  pub part : SpanIs bytes row span parent front ks behind
  pub sets : AllByRecursion IsSet (map (set_of parent) ks)
  pub filled : AllByRecursion IsFilled (map (set_of parent) ks)
  pub some : 1 ≤ length ks

-- Both parts are where the halves of the nodes are.
pub record PartsAre (bytes : List ℕ) (row : PlainRow) (left right : Span) (parent : List (ℕ × ℕ)) (front ks behind : List PlainNode) : Type 0 where
  pub front_half : SpanIs bytes row left parent front (take (half (length ks)) ks) (drop (half (length ks)) ks ++ behind)
  pub back_half : SpanIs bytes row right parent (front ++ take (half (length ks)) ks) (drop (half (length ks)) ks) behind

abbrev pub LookIs : ℕ → List ℕ → PlainRow → List (ℕ × ℕ) → List PlainNode → List PlainNode → List PlainNode → Sight → Type 0
LookIs i bytes row parent front ks behind Lacks = has (members (top (tree_over parent ks))) i ≡ false
LookIs i bytes row parent front ks behind Child = (k : PlainNode) × (ks ≡ k ∷ []) × (has_at i parent k ≡ true)
LookIs i bytes row parent front ks behind (Parts l r) = (1 < length ks) × (has (members (top (tree_over parent ks))) i ≡ true) × PartsAre bytes row l r parent front ks behind
