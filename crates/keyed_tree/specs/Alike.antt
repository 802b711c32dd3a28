-- Trees that have an inner node where the other has one, and a leaf where it has one.
use Rattle.std.specs.Prelude.{◌≡◌, ◌↔◌, List, [], ◌∷◌, Some, ⊤}
use Rattle.keyed_tree.specs.Data.{PlainLabel, PlainKeyed, inner, leaf, label_of}
use Rattle.keyed_tree.specs.Lists.{Has}
use Rattle.keyed_tree.specs.Paths.{node_at}

abbrev pub IsInner : PlainKeyed → Type 0
IsInner (inner l ks) = ⊤
IsInner (leaf l b) = ⊥

abbrev pub IsLeaf : PlainKeyed → Type 0
IsLeaf (inner l ks) = ⊥
IsLeaf (leaf l b) = ⊤

-- the path of labels, the tree's own first, leads to this node of the tree
abbrev pub EndsAt : List PlainLabel → PlainKeyed → PlainKeyed → Type 0
EndsAt [] k x = ⊥
EndsAt (l ∷ ls) k x = (label_of k ≡ l) × (node_at ls k ≡ Some x)

-- a path that both hold ends in an inner node in both, or in a leaf in both
abbrev pub Alike : PlainKeyed → PlainKeyed → Type 0
Alike k j = (path : List PlainLabel) (x y : PlainKeyed) → EndsAt path k x → EndsAt path j y → IsInner x ↔ IsInner y

-- any two of them are alike
abbrev pub AllAlike : List PlainKeyed → Type 0
AllAlike vs = (k j : PlainKeyed) → Has k vs → Has j vs → Alike k j
