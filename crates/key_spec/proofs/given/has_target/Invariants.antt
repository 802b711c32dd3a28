use Rattle.std.proofs.Common.{◌≡◌, map, drop}
use Rattle.std.specs.List.{list_any}
use Rattle.key_spec.specs.Closed.{is_dot}
use Rattle.key_spec.specs.View.{path_view}
use Rattle.key_spec.proofs.given.has_target.Given as goal

-- what is left decides
abbrev pub invariant-loop-path : goal.invariant-loop-path
invariant-loop-path l = list_any is_dot (map path_view l.paths) ≡ list_any is_dot (map path_view (drop l.path-index l.paths))
