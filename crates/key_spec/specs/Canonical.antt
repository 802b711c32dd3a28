-- The canonical text of a list of rules.
use Rattle.std.specs.Prelude.{ℕ, List, [], ◌∷◌, ◌++◌, Option, Some, None, Result, Ok, Err, if◌then◌else◌, bytes_eq, codes, flat_map}
use Rattle.key_spec.specs.Data.{PlainPath, PlainRule, PlainSpecFault}
use Rattle.key_spec.specs.Names.{context_text, path_text}

-- key paths with a comma and a space between them
abbrev pub paths_text : List PlainPath → List ℕ
paths_text [] = []
paths_text (path ∷ more) = path_text path ++ flat_map (λ other. codes ", " ++ path_text other) more

-- a rule as `(/db/dept, (emp, {fn, ln}))`
abbrev pub rule_text : PlainRule → List ℕ
rule_text rule = codes "(" ++ (context_text rule.context ++ (codes ", (" ++ (rule.tag ++ (codes ", {" ++ (paths_text rule.paths ++ codes "}))")))))

-- each rule on a line of its own
unfoldable pub canonical : List PlainRule → List ℕ
canonical rules = flat_map (λ rule. rule_text rule ++ 10 ∷ []) rules

-- the specification of which the text is the canonical text
abbrev pub spelled_by : List ℕ → Result (List PlainRule) PlainSpecFault → Option (List PlainRule)
spelled_by text (Ok rules) = if bytes_eq (canonical rules) text then Some rules else None
spelled_by text (Err fault) = None
