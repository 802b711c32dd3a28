use Rattle.std.proofs.Common.{◌≡◌, ◌++◌, drop, map}
use Rattle.std.specs.Option.{option_map}
use Rattle.key_spec.specs.View.{path_view}
use Rattle.record_parts.specs.ShownViews.{shown_body}
use Rattle.node_judge.specs.Awaited.{awaited_by}
use Rattle.node_judge.specs.View.{wait_view}
use Rattle.node_judge.proofs.wait.waits_of.Given as goal

-- what is left of both decides what is behind the waits that are made
abbrev pub invariant-loop-path : goal.invariant-loop-path
invariant-loop-path l =
    awaited_by (map path_view l.paths) (map shown_body l.keys)
    ≡ option_map (λ ws. map wait_view l.all.items ++ ws) (awaited_by (map path_view (drop l.path-index l.paths)) (map shown_body l.values.rest.now))
