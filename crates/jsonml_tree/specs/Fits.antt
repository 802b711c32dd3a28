-- What a document's tree is: an element, in which every position of an item fits four bytes.
use Rattle.std.specs.Prelude.{Bool, true, false, ◌&&◌, nat_le, length, IsTrue}
use Rattle.jsonml_tree.specs.Data.{PlainTree, text, element, PlainContent, content, PlainTrees, no_trees, tree, list_of}

abbrev pub is_element : PlainTree → Bool
is_element (text s) = false
is_element (element t c) = true

abbrev pub IsElement : PlainTree → Type 0
IsElement t = IsTrue (is_element t)

-- no element has more than 4,294,967,295 items
abbrev mutual
  pub items_fit : PlainTree → Bool
  items_fit (text s) = true
  items_fit (element t c) = content_items_fit c

  pub content_items_fit : PlainContent → Bool
  content_items_fit (content xs ts) = nat_le (length (list_of ts)) 4294967295 && all_items_fit ts

  pub all_items_fit : PlainTrees → Bool
  all_items_fit no_trees = true
  all_items_fit (tree t ts) = items_fit t && all_items_fit ts

abbrev pub ItemsFit : PlainTree → Type 0
ItemsFit t = IsTrue (items_fit t)
