-- The plain data that rules stand for.
use Rattle.std.specs.Prelude.{ℕ, List, map, String, string_bytes, option_map}
use Rattle.std.specs.declared.alloc.Global.{Global}
use Rattle.key_spec.specs.Data.{PlainPath, PlainRule}
use Rattle.key_spec.specs.declared.rule.KeyPath.{KeyPath}
use Rattle.key_spec.specs.declared.rule.Rule.{Rule}

abbrev pub names_view : List (String Global) → List (List ℕ)
names_view names = map string_bytes names

abbrev pub path_view : KeyPath → PlainPath
path_view p = record { tags = names_view p.tags.items; attr = option_map string_bytes p.attr }

abbrev pub rule_view : Rule → PlainRule
rule_view r = record { context = names_view r.context.items; tag = string_bytes r.tag; paths = map path_view r.paths.items }
