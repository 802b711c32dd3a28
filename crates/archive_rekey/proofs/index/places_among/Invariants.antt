use Rattle.std.proofs.Common.{◌≡◌, ◌++◌, map, drop}
use Rattle.archive_tree.specs.Data.{node_stamp}
use Rattle.archive_tree.specs.View.{node_view}
use Rattle.archive_rekey.specs.Index.{places, places_from}
use Rattle.archive_rekey.proofs.index.places_among.Given as goal

-- those that were found, and those that are left
abbrev pub invariant-loop-node : goal.invariant-loop-node
invariant-loop-node l = record {
  at : l.place ≡ l.node-index;
  found : places l.number (map node_stamp (map node_view l.nodes)) ≡ l.places.items ++ places_from l.number l.place (map node_stamp (map node_view (drop l.node-index l.nodes)));
}
