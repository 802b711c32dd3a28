-- Which paths end where contents are.
use Rattle.std.specs.Prelude.{ℕ, List, [], ◌∷◌, map, Bool, true, false}
use Rattle.key_spec.specs.Data.{PlainRule}
use Rattle.key_spec.specs.Rules.{is_frontier}
use Rattle.keyed_tree.specs.Data.{PlainName, attr, tag, name_bytes, PlainLabel}

abbrev pub names : List PlainLabel → List (List ℕ)
names path = map (λ (l : PlainLabel). name_bytes l.name) path

-- the name is that of an attribute, or no rule has the context
abbrev pub ends_by : List PlainRule → List (List ℕ) → PlainName → Bool
ends_by rules context (attr s) = true
ends_by rules context (tag s) = is_frontier rules context

-- the last of these labels
abbrev pub ends : List PlainRule → List (List ℕ) → List PlainLabel → Bool
ends rules context [] = false
ends rules context (l ∷ []) = ends_by rules context l.name
ends rules context (l ∷ m ∷ ls) = ends rules context (m ∷ ls)

-- the path is not empty, and ends in an attribute, or in an element that is at the frontier
abbrev pub at_frontier : List PlainRule → List PlainLabel → Bool
at_frontier rules path = ends rules (names path) path
