-- What is kept of an open leaf's alternatives, and for which alternatives it stands.
use Rattle.std.specs.Prelude.{◌≡◌, ◌↔◌, ℕ, ◌+◌, ◌==◌, Bool, true, false, not, ◌&&◌, ◌||◌, nat_le, List, [], ◌∷◌, ◌++◌, map, Some, None, is_some, IsTrue}
use Rattle.std.specs.List.{AllByRecursion, flat_map}
use Rattle.std.specs.Option.{unwrap_or}
use Rattle.version_set.specs.Members.{members}
use Rattle.archive_tree.specs.Data.{Stamp, eff, PlainAlt}
use Rattle.archive_tree.specs.PartsTest.{is_stamp_well, are_stamps_well, do_firsts_rise}
use Rattle.archive_tree.specs.Stands.{head_or, bodies}
use Rattle.record_parts.specs.Bounds.{IsValue}
use Rattle.record_parts.specs.Spelling.{value_bytes}

-- Whether an alternative inherits, the least first number of the next one, and of those that store a set its intervals and the
-- bytes of the bodies.
pub record PlainHeld : Type 0 where
  pub whole : Bool
  pub low : ℕ
  pub pairs : List (ℕ × ℕ)
  pub bodies : List (List ℕ)

abbrev pub none_held : PlainHeld
none_held = record { whole = false; low = 0; pairs = []; bodies = [] }

-- An alternative may come next. One that inherits is alone.
abbrev pub may_follow : PlainHeld → List ℕ → Stamp → Bool
may_follow h ns s = not h.whole && (is_some s || h.low == 0) && is_stamp_well s ns && nat_le h.low (head_or 0 (eff s ns))

-- what is kept with it, whose body has these bytes
abbrev pub held_with : PlainHeld → List ℕ → Stamp → List ℕ → PlainHeld
held_with h ns None b = record { whole = true; low = head_or 0 ns + 1; pairs = h.pairs; bodies = h.bodies }
held_with h ns (Some s) b = record { whole = h.whole; low = head_or 0 (members s) + 1; pairs = h.pairs ++ s; bodies = h.bodies ++ b ∷ [] }

-- ---- for which alternatives it stands

abbrev pub stored_pairs : PlainAlt → List (ℕ × ℕ)
stored_pairs x = unwrap_or x.stamp []

-- one alternative, which inherits
abbrev pub Alone : List PlainAlt → Type 0
Alone xs = (x : PlainAlt) × ((xs ≡ x ∷ []) × (x.stamp ≡ None))

-- each stores a set, and its intervals and its body are kept
pub record Stored (xs : List PlainAlt) (h : PlainHeld) : Type 0 where
  pub sets : AllByRecursion (λ (x : PlainAlt). IsTrue (is_some x.stamp)) xs
  pub pairs : h.pairs ≡ flat_map stored_pairs xs
  pub spelled : h.bodies ≡ map value_bytes (bodies xs)
  pub values : AllByRecursion IsValue (bodies xs)

-- the sets are right under those of the leaf, and the first numbers rise so far
pub record Holds (ns : List ℕ) (xs : List PlainAlt) (h : PlainHeld) : Type 0 where
  pub whole : h.whole ≡ true → Alone xs
  pub stored : h.whole ≡ false → Stored xs h
  pub none : (h.low ≡ 0) ↔ (xs ≡ [])
  pub stamps : IsTrue (are_stamps_well ns xs)
  pub rising : (ys : List PlainAlt) → do_firsts_rise 0 ns (xs ++ ys) ≡ do_firsts_rise h.low ns ys
