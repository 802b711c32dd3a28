-- The key values that a key path reaches at an element.
use Rattle.std.specs.Prelude.{ℕ, List, [], ◌∷◌, Option, Some, None, map, if◌then◌else◌, option_map}
use Rattle.std.specs.List.{filter_map, flat_map, find}
use Rattle.std.specs.Str.{bytes_eq}
use Rattle.jsonml_tree.specs.Data.{PlainScalar, PlainAttr, PlainTree, text, element, PlainContent, content, PlainTrees, no_trees, tree}
use Rattle.keyed_tree.specs.Data.{PlainKey, scalar, inside}
use Rattle.key_spec.specs.Data.{PlainPath}

abbrev pub attrs_in : PlainContent → List PlainAttr
attrs_in (content xs ts) = xs

abbrev pub items_in : PlainContent → PlainTrees
items_in (content xs ts) = ts

-- the content of an element of that tag, before the others
abbrev pub child_onto : List ℕ → PlainTree → List PlainContent → List PlainContent
child_onto t (text s) rest = rest
child_onto t (element u c) rest = if bytes_eq u t then c ∷ rest else rest

-- the contents of the items that are elements of that tag, in order
abbrev pub children : List ℕ → PlainTrees → List PlainContent
children t no_trees = []
children t (tree x ts) = child_onto t x (children t ts)

-- the contents of all elements found from a content through child elements of these tags, one after the other, in order
abbrev pub found : List (List ℕ) → PlainContent → List PlainContent
found [] c = c ∷ []
found (t ∷ ts) c = flat_map (found ts) (children t (items_in c))

-- the scalar of the attribute of that name, if there is one
abbrev pub scalar_named : List ℕ → List PlainAttr → Option PlainScalar
scalar_named name xs = option_map (λ a. a.value) (find (λ a. bytes_eq a.name name) xs)

-- of each element found, its content, or the scalar of the attribute where the path names one and the element has it
abbrev pub values_at : Option (List ℕ) → List PlainContent → List PlainKey
values_at None cs = map inside cs
values_at (Some name) cs = filter_map (λ c. option_map scalar (scalar_named name (attrs_in c))) cs

-- the key values at the path, in document order, for an element with this content
abbrev pub reach : PlainContent → PlainPath → List PlainKey
reach c p = values_at p.attr (found p.tags c)
