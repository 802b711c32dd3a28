-- The lines of a text.
use Rattle.std.specs.Prelude.{ℕ, Bool, true, List, [], ◌∷◌, length, map, if◌then◌else◌, ◌==◌, ◌||◌}
use Rattle.std.specs.List.{slice_split}
use Rattle.std.specs.Str.Lines.{strip_carriage_return}

-- the parts between the line feeds; what follows the last line feed is one where it is not empty
abbrev pub filled : List (List ℕ) → List (List ℕ)
filled [] = []
filled (part ∷ []) = if length part == 0 then [] else part ∷ []
filled (part ∷ next ∷ more) = part ∷ filled (next ∷ more)

-- the lines; one carriage return at the end of each belongs to the line's end
abbrev pub lines : List ℕ → List (List ℕ)
lines text = map strip_carriage_return (filled (slice_split (λ b. b == 10) text))

-- a space or a tab
abbrev pub is_blank : ℕ → Bool
is_blank b = b == 32 || b == 9

-- nothing but spaces and tabs, or these and then a `#`; what follows it may be any bytes
abbrev pub is_skipped : List ℕ → Bool
is_skipped [] = true
is_skipped (b ∷ bs) = if is_blank b then is_skipped bs else b == 35
