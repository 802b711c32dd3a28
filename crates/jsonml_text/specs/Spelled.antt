-- The tree that a JSON value spells, or its first shape fault in preorder.
use Rattle.std.specs.Prelude.{ℕ, ◌+◌, pos, ℤ, List, [], ◌∷◌, ◌++◌, Option, Some, None, option_map, Result, Ok, Err}
use Rattle.std.specs.Option.{option_or}
use Rattle.std.specs.Result.{result_ok}
use Rattle.serde_json.specs.Data.{Num, Data, null, boolean, number, string, array, object, Items, no_items, item, Members, no_members, member}
use Rattle.serde_json.specs.Find.{as_i64, as_u64}
use Rattle.jsonml_tree.specs.Data as tree
use Rattle.jsonml_tree.specs.Data.{PlainScalar, PlainAttr, PlainTree, text, element, PlainContent, content, PlainTrees, no_trees}

-- Where the fault is, as the positions of the items from the root down, and which it is:
-- 1 an array is empty, 2 its first value is no string, 3 a value is no item, 4 an attribute is an array or an object,
-- 5 an attribute is a number that is not whole, 6 the root is a string.
pub record ShapeFault : Type 0 where
  pub place : List ℕ
  pub why : ℕ

abbrev pub fault_at : {A : Type 0} → List ℕ → ℕ → Result A ShapeFault
fault_at place why = Err (record { place = place; why = why })

-- the second, where the first has no fault
abbrev pub and_then : {A B : Type 0} → Result A ShapeFault → (A → Result B ShapeFault) → Result B ShapeFault
and_then (Ok x) f = f x
and_then (Err e) f = Err e

abbrev pub mapped : {A B : Type 0} → (A → B) → Result A ShapeFault → Result B ShapeFault
mapped f (Ok x) = Ok (f x)
mapped f (Err e) = Err e

-- ---- attributes

-- the number that `as_i64` or `as_u64` gives
abbrev pub whole_of : Num → Option ℤ
whole_of n = option_or (as_i64 n) (option_map pos (as_u64 n))

abbrev pub whole_at : List ℕ → Option ℤ → Result PlainScalar ShapeFault
whole_at place None = fault_at place 5
whole_at place (Some n) = Ok (tree.whole n)

-- the value of an attribute of the element at this place
abbrev pub scalar_at : List ℕ → Data → Result PlainScalar ShapeFault
scalar_at place null = Ok tree.null
scalar_at place (boolean b) = Ok (tree.boolean b)
scalar_at place (number n) = whole_at place (whole_of n)
scalar_at place (string s) = Ok (tree.string s)
scalar_at place (array ds) = fault_at place 4
scalar_at place (object ms) = fault_at place 4

-- the members of an object ascend by the bytes of their names
abbrev pub attrs_at : List ℕ → Members → Result (List PlainAttr) ShapeFault
attrs_at place no_members = Ok []
attrs_at place (member name d ms) = and_then (scalar_at place d) (λ value. mapped (λ xs. record { name = name; value = value } ∷ xs) (attrs_at place ms))

-- ---- elements

abbrev pub tag_at : List ℕ → Data → Result (List ℕ) ShapeFault
tag_at place null = fault_at place 2
tag_at place (boolean b) = fault_at place 2
tag_at place (number n) = fault_at place 2
tag_at place (string s) = Ok s
tag_at place (array ds) = fault_at place 2
tag_at place (object ms) = fault_at place 2

abbrev mutual
  -- a text or an element
  pub item_at : List ℕ → Data → Result PlainTree ShapeFault
  item_at place null = fault_at place 3
  item_at place (boolean b) = fault_at place 3
  item_at place (number n) = fault_at place 3
  item_at place (string s) = Ok (text s)
  item_at place (array ds) = element_at place ds
  item_at place (object ms) = fault_at place 3

  pub element_at : List ℕ → Items → Result PlainTree ShapeFault
  element_at place no_items = fault_at place 1
  element_at place (item d ds) = and_then (tag_at place d) (λ tag. mapped (element tag) (content_at place ds))

  -- an object in front gives the attributes
  pub content_at : List ℕ → Items → Result PlainContent ShapeFault
  content_at place no_items = Ok (content [] no_trees)
  content_at place (item (object ms) ds) = and_then (attrs_at place ms) (λ xs. mapped (content xs) (items_at place 1 ds))
  content_at place (item d ds) = and_then (item_at (place ++ 1 ∷ []) d) (λ t. mapped (λ ts. content [] (tree.tree t ts)) (items_at place 2 ds))

  -- the items from this position on, each wholly before the next
  pub items_at : List ℕ → ℕ → Items → Result PlainTrees ShapeFault
  items_at place position no_items = Ok no_trees
  items_at place position (item d ds) = and_then (item_at (place ++ position ∷ []) d) (λ t. mapped (tree.tree t) (items_at place (position + 1) ds))

-- a whole document, which is an element
abbrev pub root_of : Data → Result PlainTree ShapeFault
root_of null = fault_at [] 3
root_of (boolean b) = fault_at [] 3
root_of (number n) = fault_at [] 3
root_of (string s) = fault_at [] 6
root_of (array ds) = element_at [] ds
root_of (object ms) = fault_at [] 3

-- ---- values on their own

-- the scalar that a value spells, if it spells one
abbrev pub scalar_in : Data → Option PlainScalar
scalar_in d = result_ok (scalar_at [] d)

-- the content that some values spell, if they spell one
abbrev pub content_in : Items → Option PlainContent
content_in ds = result_ok (content_at [] ds)

-- the content that an array spells, if it spells one
abbrev pub content_of_data : Data → Option PlainContent
content_of_data null = None
content_of_data (boolean b) = None
content_of_data (number n) = None
content_of_data (string s) = None
content_of_data (array ds) = content_in ds
content_of_data (object ms) = None
