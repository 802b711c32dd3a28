-- What a text specifies: its closed rules, or its first fault.
use Rattle.std.specs.Prelude.{◌≡◌, ℕ, ◌+◌, Bool, false, not, ◌&&◌, ◌||◌, List, [], ◌∷◌, ◌++◌, length, map, fold, filter_map, Option, Some, None, Result, Ok, Err, option_map, is_some, is_none, if◌then◌else◌, ◌==◌, nat_lt, flat_map, bytes_eq}
use Rattle.std.specs.List.{list_any}
use Rattle.std.specs.Ordering.{is_eq}
use Rattle.std.specs.Option.{option_eq, option_or}
use Rattle.std.specs.Cmp.Lexicographic.{pointwise}
use Rattle.std.specs.BTreeSet.{replace_key}
use Rattle.key_spec.specs.Data.{PlainPath, PlainRule, GivenRule, PlainSpecFault}
use Rattle.key_spec.specs.Rules.{path_cmp, rule_cmp, below}
use Rattle.key_spec.specs.Lines.{lines, is_skipped}
use Rattle.key_spec.specs.Form.{line_rule}
use Rattle.key_spec.specs.Canonical.{canonical}
use Rattle.key_spec.specs.declared.limits.TheConstants.{LONGEST_TEXT, MOST_RULES}

-- ---- the lines, and the first pass over them

-- the lines that are not skipped, with their numbers from 1 on
abbrev pub numbered : ℕ → List (List ℕ) → List (ℕ × List ℕ)
numbered n [] = []
numbered n (line ∷ more) = if is_skipped line then numbered (n + 1) more else (n, line) ∷ numbered (n + 1) more

-- the rules that the lines give
abbrev pub given_by : ℕ × List ℕ → Option GivenRule
given_by line = option_map (λ rule. record { line = line.0; rule = rule }) (line_rule line.1)

abbrev pub given_rules : List (ℕ × List ℕ) → List GivenRule
given_rules = filter_map given_by

abbrev pub is_same_path : PlainPath → PlainPath → Bool
is_same_path p q = pointwise bytes_eq p.tags q.tags && option_eq bytes_eq p.attr q.attr

-- a key path stands twice: here, or as one of the earlier ones
abbrev pub repeats : List PlainPath → List PlainPath → Bool
repeats earlier [] = false
repeats earlier (path ∷ more) = list_any (is_same_path path) earlier || repeats (earlier ++ path ∷ []) more

-- the key path `.`
abbrev pub is_dot : PlainPath → Bool
is_dot path = length path.tags == 0 && is_none path.attr

-- a key path stands twice, or `.` beside another
abbrev pub clashes : List PlainPath → Bool
clashes paths = repeats [] paths || (nat_lt 1 (length paths) && list_any is_dot paths)

-- more than 16 key paths, or one of more than 8 tags
abbrev pub exceeds : List PlainPath → Bool
exceeds paths = nat_lt 16 (length paths) || list_any (λ (path : PlainPath). nat_lt 8 (length path.tags)) paths

abbrev pub paths_why : List PlainPath → Option ℕ
paths_why paths = if clashes paths then Some 4 else (if exceeds paths then Some 7 else None)

-- the least why of the first pass for a line that is not skipped
abbrev pub rule_why : Option PlainRule → Option ℕ
rule_why None = Some 1
rule_why (Some rule) = paths_why rule.paths

abbrev pub line_fault : ℕ × List ℕ → Option PlainSpecFault
line_fault line = option_map (λ why. record { line = line.0; why = why }) (rule_why (line_rule line.1))

-- the first of these
abbrev pub first_of_all : {X Y : Type 0} → (X → Option Y) → List X → Option Y
first_of_all f [] = None
first_of_all f (x ∷ xs) = option_or (f x) (first_of_all f xs)

-- ---- the rules that are given and implied, and the frontier ends

-- the path of the element that a rule is about
abbrev pub target_of : PlainRule → List (List ℕ)
target_of rule = below rule.context rule.tag

-- a rule without key paths
abbrev pub unkeyed : List (List ℕ) → List ℕ → PlainRule
unkeyed context tag = record { context = context; tag = tag; paths = [] }

-- those for the tags on the way from the element at a path
abbrev pub implied_along : List (List ℕ) → List (List ℕ) → List PlainRule
implied_along path [] = []
implied_along path (tag ∷ tags) = unkeyed path tag ∷ implied_along (below path tag) tags

-- the rules that a rule's key paths imply
abbrev pub implied_by : PlainRule → List PlainRule
implied_by rule = flat_map (λ (path : PlainPath). implied_along (target_of rule) path.tags) rule.paths

abbrev pub implied_rules : List PlainRule → List PlainRule
implied_rules rules = flat_map implied_by rules

-- the element at the end of a key path without an attribute; the key path `.` ends at the target itself
abbrev pub end_at : List (List ℕ) → PlainPath → List (List (List ℕ))
end_at target path = if is_some path.attr then [] else (target ++ path.tags) ∷ []

abbrev pub frontier_ends : List PlainRule → List (List (List ℕ))
frontier_ends rules = flat_map (λ (rule : PlainRule). flat_map (end_at (target_of rule)) rule.paths) rules

-- ---- the second pass

abbrev pub has_path : List (List (List ℕ)) → List (List ℕ) → Bool
has_path paths path = list_any (λ p. is_eq (path_cmp p path)) paths

-- some rule has the same context and tag, and so the same target
abbrev pub has_place : List PlainRule → PlainRule → Bool
has_place rules rule = has_path (map target_of rules) (target_of rule)

-- the context is not `/`, and no given or implied rule has it as its target
abbrev pub lacks_context : List PlainRule → PlainRule → Bool
lacks_context rules rule = nat_lt 0 (length rule.context) && not (has_path (map target_of (rules ++ implied_rules rules)) rule.context)

-- a key other than {} for a context and tag that some line implies
abbrev pub is_keyed_twice : List PlainRule → PlainRule → Bool
is_keyed_twice rules rule = nat_lt 0 (length rule.paths) && has_place (implied_rules rules) rule

-- the rule, or one that it implies, has a frontier end as its context
abbrev pub passes_end : List PlainRule → PlainRule → Bool
passes_end rules rule = list_any (λ (r : PlainRule). has_path (frontier_ends rules) r.context) (rule ∷ implied_by rule)

-- the least why of the second pass for one of the rules, behind earlier ones
abbrev pub closing_why : List PlainRule → List PlainRule → PlainRule → Option ℕ
closing_why rules earlier rule =
    if lacks_context rules rule then Some 2 else
    (if has_place earlier rule then Some 3 else
    (if is_keyed_twice rules rule then Some 5 else
    (if passes_end rules rule then Some 6 else None)))

-- the first fault among these lines, which stand behind the earlier ones
abbrev pub closing_fault : List PlainRule → List PlainRule → List GivenRule → Option PlainSpecFault
closing_fault rules earlier [] = None
closing_fault rules earlier (given ∷ more) =
    option_or (option_map (λ why. record { line = given.line; why = why }) (closing_why rules earlier given.rule)) (closing_fault rules (earlier ++ given.rule ∷ []) more)

-- ---- the closed rules

-- these and the others in ascending order, each in the place of an earlier one with its context and tag
abbrev pub after_all : List PlainRule → List PlainRule → List PlainRule
after_all rules others = fold (replace_key rule_cmp) rules others

-- all given and implied rules, each context and tag once, in ascending order
abbrev pub closed_rules : List PlainRule → List PlainRule
closed_rules rules = after_all [] (implied_rules rules ++ rules)

-- at most 4,096 rules, whose canonical text has at most 1,048,576 bytes
abbrev pub within_limits : List PlainRule → Result (List PlainRule) PlainSpecFault
within_limits rules = if nat_lt MOST_RULES (length rules) || nat_lt LONGEST_TEXT (length (canonical rules)) then Err (record { line = 0; why = 7 }) else Ok rules

abbrev pub unless : {X : Type 0} → Option PlainSpecFault → Result X PlainSpecFault → Result X PlainSpecFault
unless None result = result
unless (Some fault) result = Err fault

-- what lines of a text specify, with their numbers
abbrev pub closed_lines : List (ℕ × List ℕ) → Result (List PlainRule) PlainSpecFault
closed_lines ls =
    let given = given_rules ls in
    let rules = map (λ (g : GivenRule). g.rule) given in
    unless (first_of_all line_fault ls) (unless (closing_fault rules [] given) (within_limits (closed_rules rules)))

-- the closed rules of a text, or the line and why of its fault: the least line of the first pass, else that of the second
unfoldable pub closed : List ℕ → Result (List PlainRule) PlainSpecFault
closed text = closed_lines (numbered 1 (lines text))

-- the closed rules of some text
abbrev pub IsClosed : List PlainRule → Type 0
IsClosed rules = (text : List ℕ) × (closed text ≡ Ok rules)
