-- Where a walk down a document stands among the rules.
use Rattle.std.specs.Prelude.{◌≡◌, ℕ, List, Option, None}
use Rattle.jsonml_tree.specs.Data.{PlainTree, text, element}
use Rattle.key_spec.specs.ContextView.{context_path, context_rules}
use Rattle.key_spec.specs.Data.{PlainRule}
use Rattle.key_spec.specs.Rules.{below}
use Rattle.key_spec.specs.declared.context.Context.{Context}
use Rattle.key_rules.specs.Faults.{PlainKeyFault, content_fault}

-- the first fault inside an element with this path, at this place
abbrev pub inside_fault : List PlainRule → List (List ℕ) → List ℕ → PlainTree → Option PlainKeyFault
inside_fault rules path place (text s) = None
inside_fault rules path place (element t c) = content_fault rules path place c

-- the second place is that below the elements of this tag at the first one
abbrev pub IsBelow : Context → List ℕ → Context → Type 0
IsBelow c t d = (context_rules d ≡ context_rules c) × (context_path d ≡ below (context_path c) t)

-- the second place is that of an item, an element, where its parent has the first
abbrev pub IsContextIn : Context → Context → PlainTree → Type 0
IsContextIn c d (text s) = ⊥
IsContextIn c d (element t inside) = IsBelow c t d
