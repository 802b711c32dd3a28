-- What is held of a leaf, as plain data.
use Rattle.std.specs.Prelude.{ℕ, List, map}
use Rattle.version_set.specs.Members.{members}
use Rattle.node_judge.specs.FrameView.{leaf_view}
use Rattle.node_judge.specs.Holding.{PlainHeld}
use Rattle.node_judge.specs.Rows.{PlainLeaf}
use Rattle.node_judge.specs.declared.held.Held.{Held}

abbrev pub held_view : Held → PlainHeld
held_view h = record { whole = h.whole; low = h.low; pairs = h.pairs.items; bodies = map (λ v. v.items) h.bodies.items }

abbrev pub held_leaf : Held → PlainLeaf
held_leaf h = leaf_view h.leaf

-- the numbers of the leaf
abbrev pub held_numbers : Held → List ℕ
held_numbers h = members (held_leaf h).set
