-- The place in a walk over the rules.
use Rattle.std.specs.Prelude.{ℕ, List}
use Rattle.key_spec.specs.Data.{PlainRule}
use Rattle.key_spec.specs.Stretches.{path_at}
use Rattle.key_spec.specs.View.{spec_view}
use Rattle.key_spec.specs.declared.context.Context.{Context}

-- the rules among which it is
abbrev pub context_rules : Context → List PlainRule
context_rules c = spec_view c.spec.now

-- the path of the elements below which it stands
abbrev pub context_path : Context → List (List ℕ)
context_path c = path_at (context_rules c) c.number
