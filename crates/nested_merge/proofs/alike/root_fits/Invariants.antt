use Rattle.std.proofs.Common.{◌≡◌, [], ◌∷◌, drop}
use Rattle.keyed_tree.specs.View.{keyed_view}
use Rattle.archive_tree.specs.View.{nodes_view}
use Rattle.nested_merge.specs.Fits.{all_fit}
use Rattle.nested_merge.proofs.alike.root_fits.Given as goal

-- the nodes that are left decide
abbrev pub invariant-loop-node : goal.invariant-loop-node
invariant-loop-node l =
    let roots = keyed_view l.tree ∷ [] in
    all_fit (nodes_view l.nodes) roots ≡ all_fit (nodes_view (drop l.node-index l.nodes)) roots
