-- The node that a path of labels leads to.
use Rattle.std.specs.Prelude.{List, [], ◌∷◌, Option, Some}
use Rattle.std.specs.Option.{option_and_then}
use Rattle.keyed_tree.specs.Data.{PlainLabel, PlainKeyed, kids_of}
use Rattle.keyed_tree.specs.Kids.{kid_at}

-- the node below this one, by the labels of its kid, of that kid's kid, and so on
abbrev pub node_at : List PlainLabel → PlainKeyed → Option PlainKeyed
node_at [] k = Some k
node_at (l ∷ ls) k = option_and_then (node_at ls) (kid_at l (kids_of k))
