-- What was given was given for what is spelled there.
use Rattle.std.specs.Prelude.{◌≡◌, ◌<◌, ◌^◌, ⊤, ℕ, List, [], ◌++◌, length, drop}
use Rattle.key_spec.specs.Canonical.{canonical}
use Rattle.xa_fields.specs.Spelling.{u64_bytes}
use Rattle.record_format.specs.Bounds.{IsRec}
use Rattle.record_format.specs.Data.{PlainRec}
use Rattle.record_format.specs.Files.{header_bytes}
use Rattle.record_format.specs.Spelling.{framed, rec_bytes}
use Rattle.record_cursor.specs.Items.{PlainItem, inner_item, leaf_item, alt_item, leaf_end_item, end_item, finish, item_of}
use Rattle.record_cursor.specs.Places.{Standing, among_nodes, in_leaf, behind_root, finished}
use Rattle.record_cursor.specs.View.{PlainHeader}

-- the bytes are those of a record that has an encoding and gives the item, and then the rest
abbrev pub IsRecordAt : PlainItem → List ℕ → List ℕ → Type 0
IsRecordAt i now rest = (r : PlainRec) × IsRec r × (item_of r ≡ i) × (now ≡ rec_bytes r ++ rest)

-- the bytes are an END with a body of this length, whatever it is, and then the rest
abbrev pub IsEndAt : ℕ → List ℕ → List ℕ → Type 0
IsEndAt n now rest = (body : List ℕ) × (length body ≡ n) × (now ≡ framed 4 body ++ rest)

-- behind the END of the root, the bytes are its length once more, and nothing is left
abbrev pub IsTailAt : Standing → List ℕ → List ℕ → Type 0
IsTailAt (among_nodes depth) now rest = ⊤
IsTailAt (in_leaf depth) now rest = ⊤
IsTailAt (behind_root n) now rest = (now ≡ u64_bytes n) × (rest ≡ [])
IsTailAt finished now rest = ⊤

-- the item was given for what is spelled there: a record's bytes, the frame of an END, or the tail
abbrev pub IsSpelled : Standing → PlainItem → List ℕ → List ℕ → Type 0
IsSpelled s (inner_item l t) now rest = IsRecordAt (inner_item l t) now rest
IsSpelled s (leaf_item l t) now rest = IsRecordAt (leaf_item l t) now rest
IsSpelled s (alt_item t b) now rest = IsRecordAt (alt_item t b) now rest
IsSpelled s leaf_end_item now rest = IsRecordAt leaf_end_item now rest
IsSpelled s (end_item n) now rest = IsEndAt n now rest
IsSpelled s finish now rest = IsTailAt s now rest

-- the bytes of a file are those of the header, and then what stands behind it
abbrev pub IsHeaderAt : PlainHeader → List ℕ → Type 0
IsHeaderAt h bytes = (bytes ≡ header_bytes h.rules h.versions ++ drop h.first bytes) × (length (canonical h.rules) < 2 ^ 32)
