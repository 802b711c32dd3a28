-- Where the rules of each place stand: the places are `/` and the targets of the rules.
use Rattle.std.specs.Prelude.{ℕ, List, [], ◌∷◌, length, map, get_or}
use Rattle.std.specs.List.{filter}
use Rattle.key_spec.specs.Data.{PlainRule}
use Rattle.key_spec.specs.Closed.{target_of}
use Rattle.key_spec.specs.Rules.{is_before, is_up_to}

-- the paths of all places, by their numbers: 0 is that of `/`, and behind it come the targets of the rules
abbrev pub places : List PlainRule → List (List (List ℕ))
places rules = [] ∷ map target_of rules

abbrev pub path_at : List PlainRule → ℕ → List (List ℕ)
path_at rules n = get_or (places rules) n []

-- so many rules stand before those with this context, and so many stand up to their end
abbrev pub count_before : List PlainRule → List (List ℕ) → ℕ
count_before rules path = length (filter (is_before path) rules)

abbrev pub count_up_to : List PlainRule → List (List ℕ) → ℕ
count_up_to rules path = length (filter (is_up_to path) rules)
