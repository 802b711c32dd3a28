use Rattle.std.proofs.Common.{◌≡◌, ◌++◌, map, take, string_bytes, codes, flat_map}
use Rattle.key_spec.specs.Names.{path_text}
use Rattle.key_spec.specs.View.{names_view}
use Rattle.csv_tables.specs.Keys.{attribute_path}
use Rattle.csv_tables.proofs.keys.push_keys.Given as goal

abbrev pub invariant-loop-key : goal.invariant-loop-key
invariant-loop-key l = string_bytes l.text ≡ string_bytes l.initial.text ++ flat_map (λ other. codes ", " ++ path_text other) (map attribute_path (names_view (take l.key-index l.others)))
