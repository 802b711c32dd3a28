use Rattle.std.proofs.Common.{◌≡◌, drop}
use Rattle.std.specs.List.{list_all}
use Rattle.key_spec.specs.Names.{is_name}
use Rattle.key_spec.specs.View.{names_view}
use Rattle.csv_tables.proofs.keys.are_names.Given as goal

-- what is left decides
abbrev pub invariant-loop-key : goal.invariant-loop-key
invariant-loop-key l = list_all is_name (names_view l.keys) ≡ list_all is_name (names_view (drop l.key-index l.keys))
