-- Trees whose texts are UTF-8, as those of every tree in memory are.
use Rattle.std.specs.Prelude.{List, [], ◌∷◌, ⊤}
use Rattle.std.specs.Str.{IsUtf8}
use Rattle.jsonml_tree.specs.Data.{PlainScalar, null, boolean, whole, string, PlainAttr, PlainTree, text, element, PlainContent, content, PlainTrees, no_trees, tree}

abbrev pub IsScalarText : PlainScalar → Type 0
IsScalarText null = ⊤
IsScalarText (boolean b) = ⊤
IsScalarText (whole n) = ⊤
IsScalarText (string s) = IsUtf8 s

abbrev pub AreAttrTexts : List PlainAttr → Type 0
AreAttrTexts [] = ⊤
AreAttrTexts (x ∷ xs) = IsUtf8 x.name × IsScalarText x.value × AreAttrTexts xs

abbrev mutual
  pub AreTexts : PlainTree → Type 0
  AreTexts (text s) = IsUtf8 s
  AreTexts (element tag c) = IsUtf8 tag × AreContentTexts c

  pub AreContentTexts : PlainContent → Type 0
  AreContentTexts (content xs ts) = AreAttrTexts xs × AreItemTexts ts

  pub AreItemTexts : PlainTrees → Type 0
  AreItemTexts no_trees = ⊤
  AreItemTexts (tree t ts) = AreTexts t × AreItemTexts ts
