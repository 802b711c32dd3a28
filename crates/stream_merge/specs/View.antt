-- What the kids of a node inherit.
use Rattle.std.specs.Prelude.{ℕ, List}
use Rattle.version_set.specs.View.{pairs_of}
use Rattle.stream_merge.specs.declared.inherited.Inherited.{Inherited}
use Rattle.stream_merge.specs.declared.inherited.Own.{Own}
use Rattle.stream_merge.specs.declared.inherited.Own.TheVariants.{Same, New}

-- The number of the new version, and the intervals of the node's set before it and with it.
pub record PlainInherited : Type 0 where
  pub number : ℕ
  pub before : List (ℕ × ℕ)
  pub now : List (ℕ × ℕ)

abbrev pub inherited_view : Inherited → PlainInherited
inherited_view h = record { number = h.number; before = pairs_of h.before; now = pairs_of h.now }

abbrev pub own_view : Own → PlainInherited
own_view (Same h) = inherited_view h.now
own_view (New h) = inherited_view h
