use Rattle.std.proofs.Common.{◌≡◌, map, drop, length, ltb}
use Rattle.std.specs.List.{list_any}
use Rattle.key_spec.specs.Data.{PlainPath}
use Rattle.key_spec.specs.View.{path_view}
use Rattle.key_spec.proofs.given.exceeds.Given as goal

-- what is left decides
abbrev pub invariant-loop-path : goal.invariant-loop-path
invariant-loop-path l =
    list_any (λ (path : PlainPath). ltb 8 (length path.tags)) (map path_view l.paths) ≡ list_any (λ (path : PlainPath). ltb 8 (length path.tags)) (map path_view (drop l.path-index l.paths))
