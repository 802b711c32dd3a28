use Rattle.std.proofs.Common.{◌≡◌, map, drop}
use Rattle.keyed_tree.specs.Kids.{IsOrdered}
use Rattle.keyed_tree.specs.Paths.{node_at}
use Rattle.keyed_tree.specs.View.{label_view, keyed_view}
use Rattle.keyed_tree.proofs.keyed.Keyed.at.Given as goal

abbrev pub invariant-loop-label : goal.invariant-loop-label
invariant-loop-label l = record {
  ordered : IsOrdered (keyed_view l.node);
  left : node_at (map label_view l.path) (keyed_view l.self) ≡ node_at (map label_view (drop l.label-index l.path)) (keyed_view l.node);
}
