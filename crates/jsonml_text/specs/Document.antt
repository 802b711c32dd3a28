-- The document of some bytes, or why there is none.
use Rattle.std.specs.Prelude.{ℕ, ◌+◌, List, [], ◌∷◌, ◌++◌, length, nat_lt, if◌then◌else◌, Option, Some, None, Result, Ok, Err}
use Rattle.std.specs.Option.{option_or}
use Rattle.serde_json.specs.Data.{Data}
use Rattle.jsonml_tree.specs.Data.{PlainTree, text, element, PlainContent, content, PlainTrees, no_trees, tree}
use Rattle.jsonml_tree.specs.declared.limits.TheConstants.{GREATEST_DEPTH}
use Rattle.jsonml_text.specs.Reading.{reading}
use Rattle.jsonml_text.specs.Spelled.{ShapeFault, root_of}

pub data DocRefusal : Type 0 where
  bad_json : DocRefusal
  bad_shape : List ℕ → ℕ → DocRefusal
  too_deep : List ℕ → DocRefusal

-- the place of the first element in preorder that stands on a level above the greatest depth; the root has level 1, and an item
-- of an element the level after its own
abbrev mutual
  pub too_deep_at : List ℕ → PlainTree → Option (List ℕ)
  too_deep_at place (text s) = None
  too_deep_at place (element tag c) = if nat_lt GREATEST_DEPTH (length place + 1) then Some place else too_deep_in place c

  pub too_deep_in : List ℕ → PlainContent → Option (List ℕ)
  too_deep_in place (content xs ts) = too_deep_from place 1 ts

  -- among the items from this position on
  pub too_deep_from : List ℕ → ℕ → PlainTrees → Option (List ℕ)
  too_deep_from place position no_trees = None
  too_deep_from place position (tree t ts) = option_or (too_deep_at (place ++ position ∷ []) t) (too_deep_from place (position + 1) ts)

-- the tree, unless an element of it stands too deep
abbrev pub unless_too_deep : PlainTree → Option (List ℕ) → Result PlainTree DocRefusal
unless_too_deep t None = Ok t
unless_too_deep t (Some place) = Err (too_deep place)

abbrev pub of_shape : Result PlainTree ShapeFault → Result PlainTree DocRefusal
of_shape (Ok t) = unless_too_deep t (too_deep_at [] t)
of_shape (Err fault) = Err (bad_shape fault.place fault.why)

abbrev pub of_value : Option Data → Result PlainTree DocRefusal
of_value None = Err bad_json
of_value (Some d) = of_shape (root_of d)

-- the document of these bytes: no JSON, else the first shape fault, else the first element that is too deep, else a tree
abbrev pub doc : List ℕ → Result PlainTree DocRefusal
doc bytes = of_value (reading bytes)
