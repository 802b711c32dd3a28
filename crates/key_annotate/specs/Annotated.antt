-- The keyed tree of a document, as a value. Where the document satisfies the keys it is the one that stands for it.
use Rattle.std.specs.Prelude.{ℕ, List, [], ◌∷◌, ◌++◌, map, Result, Ok, Err, if◌then◌else◌}
use Rattle.std.specs.Ordering.{is_lt}
use Rattle.jsonml_tree.specs.Data.{PlainTree, text, element, PlainContent, content, PlainTrees, no_trees, tree}
use Rattle.keyed_tree.specs.Data.{tag, inside, PlainLabel, PlainKeyed, inner, leaf, kids_from, label_of}
use Rattle.keyed_tree.specs.Order.{label_cmp}
use Rattle.key_spec.specs.Data.{PlainRule}
use Rattle.key_spec.specs.Rules.{is_frontier, below}
use Rattle.key_rules.specs.Labels.{PlainLabelFault, label_in}
use Rattle.key_annotate.specs.KeyedOf.{attr_leaf}

-- among kids in order, behind those that are below it
abbrev pub put_kid : PlainKeyed → List PlainKeyed → List PlainKeyed
put_kid k [] = k ∷ []
put_kid k (x ∷ xs) = if is_lt (label_cmp (label_of x) (label_of k)) then x ∷ put_kid k xs else k ∷ x ∷ xs

-- the kids in the order of their labels
abbrev pub in_order : List PlainKeyed → List PlainKeyed
in_order [] = []
in_order (k ∷ ks) = put_kid k (in_order ks)

-- the label, or that of the tag alone where there is none
abbrev pub label_or_bare : List ℕ → Result PlainLabel PlainLabelFault → PlainLabel
label_or_bare t (Ok l) = l
label_or_bare t (Err e) = record { name = tag t; keys = [] }

abbrev mutual
  pub annotated : List PlainRule → List (List ℕ) → List ℕ → PlainContent → PlainKeyed
  annotated rules context t (content xs ts) =
      if is_frontier rules (below context t) then leaf (label_or_bare t (label_in rules context t (content xs ts))) (inside (content xs ts))
      else inner (label_or_bare t (label_in rules context t (content xs ts))) (kids_from (in_order (map attr_leaf xs ++ annotated_items rules (below context t) ts)))

  pub annotated_onto : List PlainRule → List (List ℕ) → PlainTree → List PlainKeyed → List PlainKeyed
  annotated_onto rules path (text s) rest = rest
  annotated_onto rules path (element t c) rest = annotated rules path t c ∷ rest

  pub annotated_items : List PlainRule → List (List ℕ) → PlainTrees → List PlainKeyed
  annotated_items rules path no_trees = []
  annotated_items rules path (tree t ts) = annotated_onto rules path t (annotated_items rules path ts)

-- the keyed tree of a document, whose root is an element
abbrev pub keyed_tree : List PlainRule → PlainTree → PlainKeyed
keyed_tree rules (text s) = leaf (record { name = tag s; keys = [] }) (inside (content [] no_trees))
keyed_tree rules (element t c) = annotated rules [] t c
