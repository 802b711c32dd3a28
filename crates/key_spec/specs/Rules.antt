-- The order of rules, the rule for a context and a tag, and the frontier.
use Rattle.std.specs.Prelude.{◌≡◌, ℕ, Bool, true, false, not, ◌&&◌, List, [], ◌∷◌, ◌++◌, Option, bytes_eq}
use Rattle.std.specs.List.{find, list_any}
use Rattle.std.specs.Ordering.{nat_cmp, ordering_then, is_eq, is_lt, is_le}
use Rattle.std.specs.declared.cmp.Ordering.{Ordering}
use Rattle.std.specs.Cmp.Lexicographic.{slice_cmp}
use Rattle.key_spec.specs.Data.{PlainRule}

-- names by their bytes
abbrev pub name_cmp : List ℕ → List ℕ → Ordering
name_cmp = slice_cmp nat_cmp

-- paths of names, name by name, a shorter one before those that it begins
abbrev pub path_cmp : List (List ℕ) → List (List ℕ) → Ordering
path_cmp = slice_cmp name_cmp

-- where a rule stands: first by its context, then by its tag
abbrev pub place_cmp : List (List ℕ) → List ℕ → List (List ℕ) → List ℕ → Ordering
place_cmp context tag other_context other_tag = ordering_then (path_cmp context other_context) (name_cmp tag other_tag)

abbrev pub rule_cmp : PlainRule → PlainRule → Ordering
rule_cmp r s = place_cmp r.context r.tag s.context s.tag

-- the rule with this context and tag, if any
abbrev pub rule_of : List PlainRule → List (List ℕ) → List ℕ → Option PlainRule
rule_of rules context tag = find (λ r. is_eq (place_cmp r.context r.tag context tag)) rules

-- no rule has this path as its context
abbrev pub is_frontier : List PlainRule → List (List ℕ) → Bool
is_frontier rules path = not (list_any (λ r. is_eq (path_cmp r.context path)) rules)

-- the path of an element below a context
abbrev pub below : List (List ℕ) → List ℕ → List (List ℕ)
below context tag = context ++ tag ∷ []

-- ---- the rules of one context, and contexts behind a path

-- the rule has this path as its context
abbrev pub has_context : List (List ℕ) → PlainRule → Bool
has_context path r = is_eq (path_cmp r.context path)

-- it stands before the rules of this path, and not behind them
abbrev pub is_before : List (List ℕ) → PlainRule → Bool
is_before path r = is_lt (path_cmp r.context path)

abbrev pub is_up_to : List (List ℕ) → PlainRule → Bool
is_up_to path r = is_le (path_cmp r.context path)

-- rules by their tags, as those of one context ascend
abbrev pub tag_cmp : PlainRule → PlainRule → Ordering
tag_cmp r s = name_cmp r.tag s.tag

-- the first of the rules with this tag, if any
abbrev pub tagged : List PlainRule → List ℕ → Option PlainRule
tagged rules t = find (λ r. bytes_eq r.tag t) rules

-- the second path begins with the first, and goes on
abbrev pub goes_behind : List (List ℕ) → List (List ℕ) → Bool
goes_behind [] [] = false
goes_behind [] (name ∷ names) = true
goes_behind (step ∷ path) [] = false
goes_behind (step ∷ path) (name ∷ names) = bytes_eq step name && goes_behind path names

-- no rule's context goes on behind the path
abbrev pub ends_below : List PlainRule → List (List ℕ) → Bool
ends_below rules path = not (list_any (λ r. goes_behind path r.context) rules)

-- each element right below the path is at the frontier
abbrev pub EndsBelow : List PlainRule → List (List ℕ) → Type 0
EndsBelow rules path = (t : List ℕ) → is_frontier rules (below path t) ≡ true
