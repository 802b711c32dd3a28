use Rattle.std.proofs.Common.{◌≡◌, ◌++◌, map, take, string_bytes, codes, flat_map}
use Rattle.key_spec.specs.Names.{path_text}
use Rattle.key_spec.specs.View.{path_view}
use Rattle.key_spec.proofs.rule.push_paths.Given as goal

abbrev pub invariant-loop-path : goal.invariant-loop-path
invariant-loop-path l = string_bytes l.text ≡ string_bytes l.initial.text ++ flat_map (λ other. codes ", " ++ path_text other) (map path_view (take l.path-index l.others))
