-- What has an encoding is in shape and fits, and what is in shape and fits has one.
use Rattle.std.specs.Prelude.{◌↔◌, ℕ, pos, negsuc, List, [], ◌∷◌}
use Rattle.std.specs.List.{AllByRecursion}
use Rattle.std.specs.Str.{IsUtf8}
use Rattle.jsonml_tree.specs.Data.{PlainScalar, null, boolean, whole, string, PlainAttr, PlainTree, text, element, PlainContent, content, PlainTrees, no_trees, tree}
use Rattle.keyed_tree.specs.Data.{PlainKey, scalar, inside, PlainLabel, name_bytes}
use Rattle.xa_fields.specs.Spelling.{IsText}
use Rattle.record_parts.specs.Bounds.{IsScalar, IsAttr, IsItem, IsInside, AreItems, IsValue, IsLabel}
use Rattle.record_parts.specs.Shapes.{IsShapedScalar, IsShapedAttr, IsShapedItem, IsShapedInside, AreShapedItems, IsShapedValue, IsShapedLabel, FitsText, FitsScalar, FitsAttr, FitsItem, FitsInside, FitItems, FitsValue, FitsLabel}

text_is : (s : List ℕ) → IsUtf8 s → FitsText s → IsText s
text_is s h f = record { short = f; utf8 = h }

scalar_is : (s : PlainScalar) → IsShapedScalar s → FitsScalar s → IsScalar s
scalar_is null h f = tt
scalar_is (boolean b) h f = tt
scalar_is (whole (pos n)) h f = h
scalar_is (whole (negsuc n)) h f = h
scalar_is (string s) h f = text_is s h f

scalar_shape : (s : PlainScalar) → IsScalar s → IsShapedScalar s
scalar_shape null h = tt
scalar_shape (boolean b) h = tt
scalar_shape (whole (pos n)) h = h
scalar_shape (whole (negsuc n)) h = h
scalar_shape (string s) h = h.utf8

pub scalar_fit : (s : PlainScalar) → IsScalar s → FitsScalar s
scalar_fit null h = tt
scalar_fit (boolean b) h = tt
scalar_fit (whole n) h = tt
scalar_fit (string s) h = h.short

attrs_are : (xs : List PlainAttr) → AllByRecursion IsShapedAttr xs → AllByRecursion FitsAttr xs → AllByRecursion IsAttr xs
attrs_are [] h f = tt
attrs_are (a ∷ xs) h f = (record { name = text_is a.name h.0.0 f.0.0; value = scalar_is a.value h.0.1 f.0.1 }, attrs_are xs h.1 f.1)

attrs_shape : (xs : List PlainAttr) → AllByRecursion IsAttr xs → AllByRecursion IsShapedAttr xs
attrs_shape [] h = tt
attrs_shape (a ∷ xs) h = (let first = h.0 in ((first.name.utf8, scalar_shape a.value first.value), attrs_shape xs h.1))

attrs_fit : (xs : List PlainAttr) → AllByRecursion IsAttr xs → AllByRecursion FitsAttr xs
attrs_fit [] h = tt
attrs_fit (a ∷ xs) h = (let first = h.0 in ((first.name.short, scalar_fit a.value first.value), attrs_fit xs h.1))

mutual
  item_is : (t : PlainTree) → IsShapedItem t → FitsItem t → IsItem t
  item_is (text s) h f = text_is s h f
  item_is (element t c) h f = (text_is t h.0 f.0, inside_is c h.1 f.1)

  inside_is : (c : PlainContent) → IsShapedInside c → FitsInside c → IsInside c
  inside_is (content xs ts) h f = (record { few = f.0; each = attrs_are xs h.0 f.1; ascending = h.1 }, f.2, items_are ts h.2 f.3)

  items_are : (ts : PlainTrees) → AreShapedItems ts → FitItems ts → AreItems ts
  items_are no_trees h f = tt
  items_are (tree t ts) h f = (item_is t h.0 f.0, items_are ts h.1 f.1)

mutual
  item_shape : (t : PlainTree) → IsItem t → IsShapedItem t
  item_shape (text s) h = h.utf8
  item_shape (element t c) h = (h.0.utf8, inside_shape c h.1)

  inside_shape : (c : PlainContent) → IsInside c → IsShapedInside c
  inside_shape (content xs ts) h = (attrs_shape xs h.0.each, h.0.ascending, items_shape ts h.2)

  items_shape : (ts : PlainTrees) → AreItems ts → AreShapedItems ts
  items_shape no_trees h = tt
  items_shape (tree t ts) h = (item_shape t h.0, items_shape ts h.1)

mutual
  item_fit : (t : PlainTree) → IsItem t → FitsItem t
  item_fit (text s) h = h.short
  item_fit (element t c) h = (h.0.short, inside_fit c h.1)

  inside_fit : (c : PlainContent) → IsInside c → FitsInside c
  inside_fit (content xs ts) h = (h.0.few, attrs_fit xs h.0.each, h.1, items_fit ts h.2)

  items_fit : (ts : PlainTrees) → AreItems ts → FitItems ts
  items_fit no_trees h = tt
  items_fit (tree t ts) h = (item_fit t h.0, items_fit ts h.1)

pub value_parts : (k : PlainKey) → IsValue k ↔ (IsShapedValue k × FitsValue k)
value_parts (scalar s) = (λ h. (scalar_shape s h, scalar_fit s h), λ h. scalar_is s h.0 h.1)
value_parts (inside c) = (λ h. ((inside_shape c h.inside, h.depth), inside_fit c h.inside), λ h. record { inside = inside_is c h.0.0 h.1; depth = h.0.1 })

values_shape : (ks : List PlainKey) → AllByRecursion IsValue ks → AllByRecursion IsShapedValue ks
values_shape [] h = tt
values_shape (k ∷ ks) h = (((value_parts k).0 h.0).0, values_shape ks h.1)

values_fit : (ks : List PlainKey) → AllByRecursion IsValue ks → AllByRecursion FitsValue ks
values_fit [] h = tt
values_fit (k ∷ ks) h = (((value_parts k).0 h.0).1, values_fit ks h.1)

values_are : (ks : List PlainKey) → AllByRecursion IsShapedValue ks → AllByRecursion FitsValue ks → AllByRecursion IsValue ks
values_are [] h f = tt
values_are (k ∷ ks) h f = ((value_parts k).1 (h.0, f.0), values_are ks h.1 f.1)

pub label_parts : (l : PlainLabel) → IsLabel l ↔ (IsShapedLabel l × FitsLabel l)
label_parts l = (
  λ h. (record { name = h.name.utf8; keys = values_shape l.keys h.keys }, record { name = h.name.short; few = h.few; keys = values_fit l.keys h.keys }),
  λ h. record { name = text_is (name_bytes l.name) h.0.name h.1.name; few = h.1.few; keys = values_are l.keys h.0.keys h.1.keys },
)
