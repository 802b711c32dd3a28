-- The text of trees: JSON without blanks.
use Rattle.std.specs.Prelude.{ℕ, List, [], ◌∷◌, ◌++◌, drop, map, codes, if◌then◌else◌}
use Rattle.std.specs.Fmt.{signed_decimal}
use Rattle.std.specs.List.{join_with_byte}
use Rattle.json.specs.Print.{quoted}
use Rattle.jsonml_tree.specs.Data.{PlainScalar, null, boolean, whole, string, PlainAttr, PlainTree, text, element, PlainContent, content, PlainTrees, no_trees, tree}

-- `quoted` sets a string between two quotes, with the short escapes of the quote, the backslash and the bytes 8, 9, 10,
-- 12 and 13, and `\u00` with two hexadecimal digits for every other byte below 32.
abbrev pub scalar_text : PlainScalar → List ℕ
scalar_text null = codes "null"
scalar_text (boolean b) = if b then codes "true" else codes "false"
scalar_text (whole n) = signed_decimal n
scalar_text (string s) = quoted s

-- the name, a colon, the value
abbrev pub attr_text : PlainAttr → List ℕ
attr_text x = quoted x.name ++ (58 ∷ scalar_text x.value)

-- a comma and an object, where there are attributes
abbrev pub attrs_text : List PlainAttr → List ℕ
attrs_text [] = []
attrs_text (x ∷ xs) = 44 ∷ 123 ∷ (join_with_byte 44 (map attr_text (x ∷ xs)) ++ 125 ∷ [])

abbrev mutual
  -- an element in brackets: its tag, its attributes, its items
  pub tree_text : PlainTree → List ℕ
  tree_text (text s) = quoted s
  tree_text (element tag c) = 91 ∷ (quoted tag ++ (content_text c ++ 93 ∷ []))

  pub content_text : PlainContent → List ℕ
  content_text (content xs ts) = attrs_text xs ++ items_text ts

  -- each item behind a comma
  pub items_text : PlainTrees → List ℕ
  items_text no_trees = []
  items_text (tree t ts) = 44 ∷ (tree_text t ++ items_text ts)

-- a content as an array: what an element prints behind its tag, without the comma in front
abbrev pub array_text : PlainContent → List ℕ
array_text c = 91 ∷ (drop 1 (content_text c) ++ 93 ∷ [])

-- a printed document ends with a line feed
abbrev pub document_text : PlainTree → List ℕ
document_text t = tree_text t ++ 10 ∷ []
