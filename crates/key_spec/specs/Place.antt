-- The bytes of a rule's place, which ascend as rules do.
use Rattle.std.specs.Prelude.{ℕ, ◌+◌, List, ◌∷◌, ◌++◌, map, flat_map}
use Rattle.key_spec.specs.Data.{PlainRule}

-- the bytes of a name, each moved up by two; there is room, since the last two bytes stand in no text
abbrev pub lifted : List ℕ → List ℕ
lifted name = map (λ b. b + 2) name

-- each name behind a byte that is below all of its own
abbrev pub context_bytes : List (List ℕ) → List ℕ
context_bytes names = flat_map (λ name. 1 ∷ lifted name) names

-- the context, and the tag behind a byte that is below all others
abbrev pub place_bytes : PlainRule → List ℕ
place_bytes rule = context_bytes rule.context ++ 0 ∷ lifted rule.tag
