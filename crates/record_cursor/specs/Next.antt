-- What stands at a cursor: the next item, and what comes behind it.
use Rattle.std.specs.Prelude.{◌≡◌, ℕ, ◌+◌, ◌==◌, List, [], ◌∷◌, length, Option, Some, None, option_map, bytes_eq, if◌then◌else◌}
use Rattle.xa_fields.specs.Spelling.{u64_bytes}
use Rattle.xa_fields.specs.Reading.{Reader, ◌>>=◌}
use Rattle.record_format.specs.Data.{inner_rec, leaf_rec, alt_rec}
use Rattle.record_format.specs.Spelling.{rec_bytes}
use Rattle.record_format.specs.Reading.{record_of, frame_at}
use Rattle.record_cursor.specs.Items.{PlainItem, inner_item, leaf_item, alt_item, leaf_end_item, end_item, finish, item_of}
use Rattle.record_cursor.specs.Places.{Standing, among_nodes, in_leaf, behind_root, finished, after_item}

-- the item of a record of this kind with this body; the body of an END is not looked at
abbrev pub item_in : ℕ → List ℕ → Option PlainItem
item_in kind body = if kind == 4 then Some (end_item (length body)) else option_map item_of (record_of kind body)

-- a record that ends within the bytes
unfoldable pub record_item_at : Reader PlainItem
record_item_at bytes = do
  f ← frame_at bytes
  i ← item_in f.0.0 f.0.1
  Some (i, f.1)

-- the length of the root's END once more, and nothing behind it
abbrev pub tail_at : ℕ → Reader PlainItem
tail_at n bytes = if bytes_eq bytes (u64_bytes n) then Some (finish, []) else None

abbrev pub item_at : Standing → Reader PlainItem
item_at (among_nodes depth) bytes = record_item_at bytes
item_at (in_leaf depth) bytes = record_item_at bytes
item_at (behind_root n) bytes = tail_at n bytes
item_at finished bytes = Some (finish, bytes)

-- The item at the front of the bytes that are left, where it may come, and where the cursor then stands before which bytes.
unfoldable pub next_of : Standing → List ℕ → Option (PlainItem × (Standing × List ℕ))
next_of s bytes = do
  i ← item_at s bytes
  t ← after_item s i.0
  Some (i.0, (t, i.1))

-- the record at the front of the bytes, if it may come among nodes
abbrev pub opening_at : Reader PlainItem
opening_at bytes = option_map (λ (x : PlainItem × (Standing × List ℕ)). (x.0, x.1.1)) (next_of (among_nodes 0) bytes)

-- these items come one after another
abbrev pub Gives : Standing → List ℕ → List PlainItem → Standing → List ℕ → Type 0
Gives s bytes [] t rest = (s ≡ t) × (bytes ≡ rest)
Gives s bytes (i ∷ is) t rest = (u : Standing) × (more : List ℕ) × (next_of s bytes ≡ Some (i, (u, more))) × Gives u more is t rest

-- ---- bytes

-- the bytes by which the cursor moves over the item
abbrev pub size_of : Standing → PlainItem → ℕ
size_of s (inner_item l t) = length (rec_bytes (inner_rec l t))
size_of s (leaf_item l t) = length (rec_bytes (leaf_rec l t))
size_of s (alt_item t b) = length (rec_bytes (alt_rec t b))
size_of s leaf_end_item = 9
size_of s (end_item n) = 9 + n
size_of (behind_root n) finish = 8
size_of (among_nodes depth) finish = 0
size_of (in_leaf depth) finish = 0
size_of finished finish = 0

-- the bytes that are read for the item: of an END the kind and the length alone
abbrev pub read_for : Standing → PlainItem → ℕ
read_for s (inner_item l t) = size_of s (inner_item l t)
read_for s (leaf_item l t) = size_of s (leaf_item l t)
read_for s (alt_item t b) = size_of s (alt_item t b)
read_for s leaf_end_item = 9
read_for s (end_item n) = 9
read_for s finish = size_of s finish
