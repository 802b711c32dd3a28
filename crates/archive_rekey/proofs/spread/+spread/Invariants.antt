use Rattle.std.proofs.Common.{◌≡◌, ◌++◌, map, length}
use Rattle.std.specs.List.{AllByRecursion}
use Rattle.std.specs.Vec.Iter.{into_iter_items}
use Rattle.spelled_archive.specs.View.{node_view}
use Rattle.version_runs.specs.Spread.{spread_node, IsNodeWithin}
use Rattle.archive_rekey.proofs.spread.+spread.Given as goal

-- what is done, and what is made of those that are left, are the whole
abbrev pub invariant-spread_nodes-loop-node : goal.invariant-spread_nodes-loop-node
invariant-spread_nodes-loop-node l =
    let left = map node_view (into_iter_items l.node-iterator) in
    let f = spread_node l.starts l.last in
    record {
      within : AllByRecursion (IsNodeWithin (length l.starts)) left;
      whole : map node_view l.spread.items ++ map f left ≡ map f (map node_view l.fn.nodes.items);
    }
