-- Directories and records as bytes.
use Rattle.std.specs.Prelude.{ℕ, List, [], ◌∷◌, ◌++◌, length}
use Rattle.xa_fields.specs.Spelling.{u64_bytes, list_bytes}
use Rattle.timestamp_tree.specs.Bytes.{tree_bytes}
use Rattle.timestamp_tree.specs.Tree.{tree_of}
use Rattle.record_parts.specs.Spelling.{value_bytes, label_bytes, stamp_bytes}
use Rattle.record_format.specs.Data.{PlainEntry, PlainDir, PlainRec, inner_rec, leaf_rec, alt_rec, end_rec, leaf_end}

-- ---- directories

abbrev pub entry_bytes : PlainEntry → List ℕ
entry_bytes e = u64_bytes e.start ++ (u64_bytes e.length ++ u64_bytes e.dir)

-- the timestamp tree over the sets, where there are any
abbrev pub sets_bytes : List (List (ℕ × ℕ)) → List ℕ
sets_bytes [] = []
sets_bytes (s ∷ ss) = tree_bytes (tree_of (s ∷ ss))

-- the number of children, their entries, and the tree over their sets
abbrev pub dir_bytes : PlainDir → List ℕ
dir_bytes d = list_bytes entry_bytes d.entries ++ sets_bytes d.sets

-- ---- records

abbrev pub kind_of : PlainRec → ℕ
kind_of (inner_rec l s) = 1
kind_of (leaf_rec l s) = 2
kind_of (alt_rec s b) = 3
kind_of (end_rec d) = 4
kind_of leaf_end = 5

abbrev pub body_bytes : PlainRec → List ℕ
body_bytes (inner_rec l s) = label_bytes l ++ stamp_bytes s
body_bytes (leaf_rec l s) = label_bytes l ++ stamp_bytes s
body_bytes (alt_rec s b) = stamp_bytes s ++ value_bytes b
body_bytes (end_rec d) = dir_bytes d
body_bytes leaf_end = []

-- a byte of the kind, the length of the body, and the body
abbrev pub framed : ℕ → List ℕ → List ℕ
framed kind body = kind ∷ (u64_bytes (length body) ++ body)

abbrev pub rec_bytes : PlainRec → List ℕ
rec_bytes r = framed (kind_of r) (body_bytes r)
