-- What values and labels are apart from the fit of lengths and counts, and which lengths and counts fit.
use Rattle.std.specs.Prelude.{ℕ, ◌<◌, ◌≤◌, ◌^◌, pos, negsuc, List, length, ⊤, IsTrue}
use Rattle.std.specs.Str.{IsUtf8}
use Rattle.std.specs.List.{AllByRecursion}
use Rattle.jsonml_tree.specs.Data.{PlainScalar, null, boolean, whole, string, PlainAttr, PlainTree, text, element, PlainContent, content, PlainTrees, no_trees, tree, list_of, content_depth}
use Rattle.jsonml_tree.specs.WellFormed.{is_ascending}
use Rattle.keyed_tree.specs.Data.{PlainKey, scalar, inside, PlainLabel, name_bytes}
use Rattle.xa_fields.specs.declared.limits.TheConstants.{FIELD}
use Rattle.record_parts.specs.Bounds.{deepest}

-- ---- shapes: texts are UTF-8, numbers are in range, attributes ascend by name, and elements nest at most so deep

abbrev pub IsShapedScalar : PlainScalar → Type 0
IsShapedScalar null = ⊤
IsShapedScalar (boolean b) = ⊤
IsShapedScalar (whole (pos n)) = n < 2 ^ 64
IsShapedScalar (whole (negsuc n)) = n < 2 ^ 63
IsShapedScalar (string s) = IsUtf8 s

abbrev pub IsShapedAttr : PlainAttr → Type 0
IsShapedAttr a = IsUtf8 a.name × IsShapedScalar a.value

abbrev mutual
  pub IsShapedItem : PlainTree → Type 0
  IsShapedItem (text s) = IsUtf8 s
  IsShapedItem (element t c) = IsUtf8 t × IsShapedInside c

  pub IsShapedInside : PlainContent → Type 0
  IsShapedInside (content xs ts) = AllByRecursion IsShapedAttr xs × IsTrue (is_ascending xs) × AreShapedItems ts

  pub AreShapedItems : PlainTrees → Type 0
  AreShapedItems no_trees = ⊤
  AreShapedItems (tree t ts) = IsShapedItem t × AreShapedItems ts

abbrev pub IsShapedValue : PlainKey → Type 0
IsShapedValue (scalar s) = IsShapedScalar s
IsShapedValue (inside c) = IsShapedInside c × (content_depth c ≤ deepest)

pub record IsShapedLabel (l : PlainLabel) : Type 0 where
  pub name : IsUtf8 (name_bytes l.name)
  pub keys : AllByRecursion IsShapedValue l.keys

-- ---- lengths and counts

abbrev pub FitsText : List ℕ → Type 0
FitsText s = length s < FIELD

abbrev pub FitsScalar : PlainScalar → Type 0
FitsScalar null = ⊤
FitsScalar (boolean b) = ⊤
FitsScalar (whole n) = ⊤
FitsScalar (string s) = FitsText s

abbrev pub FitsAttr : PlainAttr → Type 0
FitsAttr a = FitsText a.name × FitsScalar a.value

abbrev mutual
  pub FitsItem : PlainTree → Type 0
  FitsItem (text s) = FitsText s
  FitsItem (element t c) = FitsText t × FitsInside c

  pub FitsInside : PlainContent → Type 0
  FitsInside (content xs ts) = (length xs < FIELD) × AllByRecursion FitsAttr xs × (length (list_of ts) < FIELD) × FitItems ts

  pub FitItems : PlainTrees → Type 0
  FitItems no_trees = ⊤
  FitItems (tree t ts) = FitsItem t × FitItems ts

abbrev pub FitsValue : PlainKey → Type 0
FitsValue (scalar s) = FitsScalar s
FitsValue (inside c) = FitsInside c

pub record FitsLabel (l : PlainLabel) : Type 0 where
  pub name : FitsText (name_bytes l.name)
  pub few : length l.keys < FIELD
  pub keys : AllByRecursion FitsValue l.keys
