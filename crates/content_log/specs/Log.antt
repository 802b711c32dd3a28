-- The contents that the leaf at a path has had, each with the versions that have it.
use Rattle.std.specs.Prelude.{ℕ, List, [], ◌∷◌, map, filter, not, Option, Some, None}
use Rattle.std.specs.List.{filter_map}
use Rattle.std.specs.Option.{option_and_then}
use Rattle.std.specs.Ordering.{is_eq}
use Rattle.keyed_tree.specs.Data.{PlainKey, PlainLabel, PlainKeyed, inner, leaf, label_of}
use Rattle.keyed_tree.specs.Order.{key_cmp, label_cmp}
use Rattle.keyed_tree.specs.Paths.{node_at}
use Rattle.archive_tree.specs.Stands.{nums_with, numbered, passed, those}

-- the node of a version at a path, whose first label is the root's
abbrev pub found_at : List PlainLabel → PlainKeyed → Option PlainKeyed
found_at [] k = None
found_at (l ∷ ls) k = option_and_then (node_at ls) (passed (λ r. is_eq (label_cmp (label_of r) l)) k)

-- each version that holds the path, with its node there
abbrev pub at_path : List PlainKeyed → List PlainLabel → List (ℕ × PlainKeyed)
at_path vs path = those (found_at path) (numbered vs)

-- the body of a leaf
abbrev pub body_in : PlainKeyed → Option PlainKey
body_in (inner l ks) = None
body_in (leaf l b) = Some b

abbrev pub bodies_in : List (ℕ × PlainKeyed) → List PlainKey
bodies_in ws = filter_map (λ w. body_in w.1) ws

-- each body once, where it comes first
abbrev pub each_once : List PlainKey → List PlainKey
each_once [] = []
each_once (b ∷ bs) = b ∷ filter (λ c. not (is_eq (key_cmp c b))) (each_once bs)

-- a body, and the ascending numbers of the versions that have it
pub record Entry : Type 0 where
  pub numbers : List ℕ
  pub body : PlainKey

-- an entry for each different body of these leaves, in the order of the first numbers
abbrev pub entries_of : List (ℕ × PlainKeyed) → List Entry
entries_of ws = map (λ b. record { numbers = nums_with ws b; body = b }) (each_once (bodies_in ws))

abbrev pub log : List PlainKeyed → List PlainLabel → List Entry
log vs path = entries_of (at_path vs path)
