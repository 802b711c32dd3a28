use Rattle.std.proofs.Common.{◌≡◌, map, drop}
use Rattle.std.specs.Cmp.Lexicographic.{pointwise}
use Rattle.keyed_tree.specs.View.{key_view}
use Rattle.key_spec.specs.Data.{PlainPath}
use Rattle.key_spec.specs.View.{path_view}
use Rattle.archive_tree.specs.View.{node_view}
use Rattle.archive_file.specs.NodeFits.{node_leads}
use Rattle.archive_file.proofs.lead.do_lead.Given as goal

-- what is left of both decides
abbrev pub invariant-loop-path : goal.invariant-loop-path
invariant-loop-path l =
    pointwise (λ (p : PlainPath) v. node_leads p.tags p.attr v (node_view l.node)) (map path_view l.paths) (map key_view l.keys)
    ≡ pointwise (λ (p : PlainPath) v. node_leads p.tags p.attr v (node_view l.node)) (map path_view (drop l.path-index l.paths)) (map key_view l.values.rest.now)
