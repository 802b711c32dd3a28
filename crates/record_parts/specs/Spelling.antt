-- Values, labels and timestamps as bytes.
use Rattle.std.specs.Prelude.{ℕ, pos, negsuc, true, false, List, [], ◌∷◌, ◌++◌, length, Some, None}
use Rattle.jsonml_tree.specs.Data.{PlainScalar, null, boolean, whole, string, PlainAttr, PlainTree, text, element, PlainContent, content, PlainTrees, no_trees, tree, list_of}
use Rattle.keyed_tree.specs.Data.{PlainName, attr, tag, PlainKey, scalar, inside, PlainLabel}
use Rattle.archive_tree.specs.Data.{Stamp}
use Rattle.xa_fields.specs.Spelling.{u32_bytes, u64_bytes, text_bytes, list_bytes}
use Rattle.timestamp_tree.specs.Bytes.{set_bytes}

-- ---- values

abbrev pub scalar_bytes : PlainScalar → List ℕ
scalar_bytes null = 0 ∷ []
scalar_bytes (boolean false) = 1 ∷ []
scalar_bytes (boolean true) = 2 ∷ []
scalar_bytes (whole (pos n)) = 3 ∷ u64_bytes n
scalar_bytes (whole (negsuc n)) = 4 ∷ u64_bytes n
scalar_bytes (string s) = 5 ∷ text_bytes s

abbrev pub attr_bytes : PlainAttr → List ℕ
attr_bytes a = text_bytes a.name ++ scalar_bytes a.value

abbrev mutual
  pub item_bytes : PlainTree → List ℕ
  item_bytes (text s) = 0 ∷ text_bytes s
  item_bytes (element t c) = 1 ∷ (text_bytes t ++ content_bytes c)

  -- the number of attributes, the attributes, the number of items, and the items
  pub content_bytes : PlainContent → List ℕ
  content_bytes (content xs ts) = list_bytes attr_bytes xs ++ (u32_bytes (length (list_of ts)) ++ items_bytes ts)

  pub items_bytes : PlainTrees → List ℕ
  items_bytes no_trees = []
  items_bytes (tree t ts) = item_bytes t ++ items_bytes ts

-- a key value, and likewise the body of a leaf
abbrev pub value_bytes : PlainKey → List ℕ
value_bytes (scalar s) = 0 ∷ scalar_bytes s
value_bytes (inside c) = 1 ∷ content_bytes c

-- ---- labels and timestamps

abbrev pub name_spelling : PlainName → List ℕ
name_spelling (attr s) = 0 ∷ text_bytes s
name_spelling (tag s) = 1 ∷ text_bytes s

-- the name, the number of key values, and the key values
abbrev pub label_bytes : PlainLabel → List ℕ
label_bytes l = name_spelling l.name ++ list_bytes value_bytes l.keys

-- a byte 0 where the parent's set is inherited, else a byte 1 and the set
abbrev pub stamp_bytes : Stamp → List ℕ
stamp_bytes None = 0 ∷ []
stamp_bytes (Some s) = 1 ∷ set_bytes s
