-- The alternatives of one leaf, held.
use Rattle.std.specs.Prelude.{◌≡◌, ℕ, List, [], ◌∷◌, ◌++◌, map}
use Rattle.std.specs.List.{AllByRecursion, cons_option}
use Rattle.xa_fields.specs.Reading.{whole}
use Rattle.version_set.specs.Members.{members}
use Rattle.archive_tree.specs.Data.{PlainAlt}
use Rattle.archive_tree.specs.Stands.{AllDiffer, first_num}
use Rattle.archive_tree.specs.View.{stamp_view}
use Rattle.record_parts.specs.Reading.{value_at}
use Rattle.record_parts.specs.ShownViews.{value_in}
use Rattle.record_writer.specs.Data.{WriterCall, call_alt}
use Rattle.record_copy.specs.Short.{IsShortCall}
use Rattle.archive_cut.specs.Short.{IsLeftOf}
use Rattle.archive_cut.specs.Sliced.{by_first}
use Rattle.archive_cut.specs.Windows.{alt_left}
use Rattle.archive_cut.specs.declared.held.Held.{Held}

abbrev pub held_view : Held → PlainAlt
held_view h = record { stamp = stamp_view h.stamp; body = value_in (whole value_at h.body.items) }

-- its number is the first of its own, in a leaf that has the set
abbrev pub KnowsFirst : List (ℕ × ℕ) → Held → Type 0
KnowsFirst now h = h.first ≡ first_num (members now) (held_view h)

-- what is left of alternatives, where now is left of their leaf's set
abbrev pub alts_left : ℕ → ℕ → List (ℕ × ℕ) → List PlainAlt → List PlainAlt
alts_left i j now [] = []
alts_left i j now (x ∷ xs) = cons_option (alt_left i j now x) (alts_left i j now xs)

abbrev pub alt_call : PlainAlt → WriterCall
alt_call x = call_alt x.stamp x.body

-- the call that writes it is short
abbrev pub IsShortAlt : ℕ → ℕ → ℕ → PlainAlt → Type 0
IsShortAlt b i j x = IsShortCall (IsLeftOf b i j) b (alt_call x)

-- One more is held.
pub record Pushed (now : List (ℕ × ℕ)) (x : PlainAlt) (old new : List Held) : Type 0 where
  pub held : Held
  pub is : new ≡ old ++ held ∷ []
  pub shown : held_view held ≡ x
  pub known : KnowsFirst now held

-- What is held now, beside what was: an alternative more, of which a number is left, or none.
pub record Holds (i j : ℕ) (now : List (ℕ × ℕ)) (x : PlainAlt) (old new : List Held) : Type 0 where
  pub views : map held_view new ≡ map held_view old ++ alts_left i j now (x ∷ [])
  pub first : AllByRecursion (KnowsFirst now) old → AllByRecursion (KnowsFirst now) new

-- They were put into the order of their first numbers.
pub record InOrder (old new : List Held) : Type 0 where
  pub order : (now : List (ℕ × ℕ)) → AllByRecursion (KnowsFirst now) old → AllDiffer (map (first_num (members now)) (map held_view old))
      → map held_view new ≡ by_first (members now) (map held_view old)
  pub short : (b i j : ℕ) → AllByRecursion (IsShortAlt b i j) (map held_view old) → AllByRecursion (IsShortAlt b i j) (map held_view new)
