-- The calls of a printer, and what lists of them print.
use Rattle.std.specs.Prelude.{◌≡◌, ℕ, List, [], ◌∷◌, ◌++◌, map, false, IsTrue, Result, OnOk, ⊤}
use Rattle.xa_outside.specs.Taken.{Taken, Puts}
use Rattle.json.specs.Print.{quoted}
use Rattle.jsonml_tree.specs.Data.{PlainAttr, PlainTree, PlainContent, content, PlainTrees, no_trees, tree}
use Rattle.jsonml_tree.specs.Data as plain
use Rattle.jsonml_print.specs.Printed.{attr_text}
use Rattle.jsonml_print.specs.Pen.{Pen, one_more, one_less, takes_attribute, has_ended, IsOpen}
use Rattle.jsonml_print.specs.declared.last.Last.{Last}
use Rattle.jsonml_print.specs.declared.last.Last.TheVariants.{Nothing, Opened, Begun, Attribute, Item}

pub data Call : Type 0 where
  begin : List ℕ → Call
  attribute : PlainAttr → Call
  text : List ℕ → Call
  end : Call

-- when a call may come: the outermost element has not ended; directly behind the beginning of an element or an
-- attribute; inside an element
abbrev pub MayCome : Pen → Call → Type 0
MayCome p (begin tag) = has_ended p ≡ false
MayCome p (attribute x) = IsTrue (takes_attribute p.last)
MayCome p (text s) = IsOpen p
MayCome p end = IsOpen p

-- where the printer stands after it
abbrev pub after : Pen → Call → Pen
after p (begin tag) = record { depth = one_more p.depth; last = Begun }
after p (attribute x) = record { depth = p.depth; last = Attribute }
after p (text s) = record { depth = p.depth; last = Item }
after p end = record { depth = one_less p.depth; last = Item }

-- the brace behind the attributes of an element
abbrev pub brace : Last → List ℕ
brace Nothing = []
brace Opened = []
brace Begun = []
brace Attribute = 125 ∷ []
brace Item = []

-- what comes before an item: that brace, and a comma, but for the first in an array
abbrev pub item_lead : Last → List ℕ
item_lead Nothing = []
item_lead Opened = []
item_lead Begun = 44 ∷ []
item_lead Attribute = 125 ∷ 44 ∷ []
item_lead Item = 44 ∷ []

-- what comes before an attribute: a comma, and the brace before the first of an element; no comma in front in an array
abbrev pub attribute_lead : Last → List ℕ
attribute_lead Nothing = []
attribute_lead Opened = 123 ∷ []
attribute_lead Begun = 44 ∷ 123 ∷ []
attribute_lead Attribute = 44 ∷ []
attribute_lead Item = []

-- what a call prints
abbrev pub piece : Pen → Call → List ℕ
piece p (begin tag) = item_lead p.last ++ (91 ∷ quoted tag)
piece p (attribute x) = attribute_lead p.last ++ attr_text x
piece p (text s) = item_lead p.last ++ quoted s
piece p end = brace p.last ++ 93 ∷ []

-- ---- lists of calls

abbrev pub printed : Pen → List Call → List ℕ
printed p [] = []
printed p (c ∷ cs) = piece p c ++ printed (after p c) cs

abbrev pub reached : Pen → List Call → Pen
reached p [] = p
reached p (c ∷ cs) = reached (after p c) cs

abbrev pub AllMayCome : Pen → List Call → Type 0
AllMayCome p [] = ⊤
AllMayCome p (c ∷ cs) = MayCome p c × AllMayCome (after p c) cs

-- Some calls wrote what they print, or failed with a prefix of it. After a failure nothing is said of the printer.
pub record Prints {T E : Type 0} (before now : Taken) (old new : Pen) (calls : List Call) (result : Result T E) : Type 0 where
  pub bytes : Puts before now result (printed old calls)
  pub pen : OnOk result (new ≡ reached old calls)

-- the calls that walk a tree
abbrev mutual
  pub calls_of : PlainTree → List Call
  calls_of (plain.text s) = text s ∷ []
  calls_of (plain.element tag c) = begin tag ∷ (content_calls c ++ end ∷ [])

  pub content_calls : PlainContent → List Call
  content_calls (content xs ts) = map attribute xs ++ items_calls ts

  pub items_calls : PlainTrees → List Call
  items_calls no_trees = []
  items_calls (tree t ts) = calls_of t ++ items_calls ts
