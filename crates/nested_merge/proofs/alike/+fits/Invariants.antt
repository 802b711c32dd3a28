use Rattle.std.proofs.Common.{◌≡◌, drop}
use Rattle.keyed_tree.specs.Data.{kids_of}
use Rattle.keyed_tree.specs.View.{keyed_view}
use Rattle.archive_tree.specs.View.{nodes_view}
use Rattle.nested_merge.specs.Fits.{all_fit}
use Rattle.nested_merge.proofs.alike.+fits.Given as goal

-- the nodes that are left decide
abbrev pub invariant-all_fit-loop-node : goal.invariant-all_fit-loop-node
invariant-all_fit-loop-node l =
    let kids = kids_of (keyed_view l.tree) in
    all_fit (nodes_view l.nodes) kids ≡ all_fit (nodes_view (drop l.node-index l.nodes)) kids
