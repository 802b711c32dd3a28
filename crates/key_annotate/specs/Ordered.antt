-- What the builder of keyed trees gives: a tree where the keys are satisfied, and nothing where they are not.
use Rattle.std.specs.Prelude.{ℕ, Bool, true, false, List, [], ◌∷◌, ◌++◌, map, Option, Some, None, if◌then◌else◌}
use Rattle.std.specs.Option.{option_map, option_and_then}
use Rattle.jsonml_tree.specs.Data.{PlainAttr, PlainTree, text, element, PlainContent, content, PlainTrees, no_trees, tree}
use Rattle.keyed_tree.specs.Data.{inside, PlainLabel, PlainKeyed, inner, leaf, kids_from}
use Rattle.keyed_tree.specs.Kids.{ascend}
use Rattle.key_spec.specs.Data.{PlainRule}
use Rattle.key_spec.specs.Rules.{is_frontier, below}
use Rattle.key_rules.specs.Labels.{label_in}
use Rattle.key_rules.specs.Satisfies.{is_space_only, ok_of}
use Rattle.key_annotate.specs.KeyedOf.{attr_leaf}
use Rattle.key_annotate.specs.Annotated.{in_order}

-- the kids in the order of their labels, unless two have one label
abbrev pub kids_in_order : List PlainKeyed → Option (List PlainKeyed)
kids_in_order ks = if ascend (kids_from (in_order ks)) then Some (in_order ks) else None

-- the kids of an inner element: its attributes, and behind them those that its items give, in the order of their labels
abbrev pub all_kids : List PlainAttr → Option (List PlainKeyed) → Option (List PlainKeyed)
all_kids xs items = option_map (λ ks. map attr_leaf xs ++ ks) (option_and_then kids_in_order items)

-- at the frontier a leaf, else an inner node
abbrev pub node_of : Bool → Option PlainLabel → PlainContent → Option (List PlainKeyed) → Option PlainKeyed
node_of true label c kids = option_map (λ l. leaf l (inside c)) label
node_of false label c kids = option_and_then (λ l. option_map (λ ks. inner l (kids_from ks)) kids) label

abbrev pub put_first : Option PlainKeyed → Option (List PlainKeyed) → Option (List PlainKeyed)
put_first k ks = option_and_then (λ x. option_map (λ xs. x ∷ xs) ks) k

abbrev mutual
  pub built : List PlainRule → List (List ℕ) → List ℕ → PlainContent → Option PlainKeyed
  built rules context t (content xs ts) =
      node_of (is_frontier rules (below context t)) (ok_of (label_in rules context t (content xs ts))) (content xs ts) (all_kids xs (built_items rules (below context t) ts))

  pub built_onto : List PlainRule → List (List ℕ) → PlainTree → Option (List PlainKeyed) → Option (List PlainKeyed)
  built_onto rules path (text s) rest = if is_space_only s then rest else None
  built_onto rules path (element t c) rest = put_first (built rules path t c) rest

  pub built_items : List PlainRule → List (List ℕ) → PlainTrees → Option (List PlainKeyed)
  built_items rules path no_trees = Some []
  built_items rules path (tree t ts) = built_onto rules path t (built_items rules path ts)

-- the kids that the items of an inner element with this path and content give, in the order of their labels
abbrev pub items_inside : List PlainRule → List (List ℕ) → PlainContent → Option (List PlainKeyed)
items_inside rules path (content xs ts) = option_and_then kids_in_order (built_items rules path ts)

-- the keyed tree of a tree, which is an element
abbrev pub built_tree : List PlainRule → List (List ℕ) → PlainTree → Option PlainKeyed
built_tree rules context (text s) = None
built_tree rules context (element t c) = built rules context t c
