use Rattle.std.proofs.Common.{◌≡◌, drop, map}
use Rattle.node_judge.specs.Neighbours.{differ_from, neighbours_differ}
use Rattle.node_judge.proofs.bodies.do_neighbours_differ.Given as goal

-- what is left decides
abbrev pub invariant-loop-body : goal.invariant-loop-body
invariant-loop-body l = neighbours_differ (map (λ v. v.items) l.bodies) ≡ differ_from l.last (map (λ v. v.items) (drop l.body-index l.rest))
