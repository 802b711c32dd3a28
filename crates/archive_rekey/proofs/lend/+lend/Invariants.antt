use Rattle.std.proofs.Common.{[], ◌∷◌, ◌≡◌, ◌+◌, ◌++◌, map, drop}
use Rattle.std.specs.List.{AllByRecursion}
use Rattle.jsonml_tree.specs.Data.{list_of}
use Rattle.jsonml_tree.specs.LentAttrs.{lent_attr_view}
use Rattle.jsonml_tree.specs.LentView.{lent_tree_view}
use Rattle.keyed_tree.specs.Plain.{attrs_among, items_among}
use Rattle.archive_tree.specs.Data.{nodes_from}
use Rattle.archive_tree.specs.Read.{read_row}
use Rattle.archive_tree.specs.View.{node_view, nodes_view}
use Rattle.archive_rekey.proofs.IndexLemmas.{IsPlace, picked}
use Rattle.archive_rekey.proofs.Sizes.{node_size, nodes_size}
use Rattle.archive_rekey.proofs.lend.+lend.Given as goal

-- what is done, and then what the nodes at the places that are left give
abbrev pub invariant-lend_found-loop-place : goal.invariant-lend_found-loop-place
invariant-lend_found-loop-place l = record {
  left : AllByRecursion (IsPlace l.number (map node_view l.nodes)) (drop l.place-index l.place-items);
  attrs : attrs_among (read_row l.number (l.number ∷ []) (nodes_view l.nodes))
      ≡ map lent_attr_view l.attrs.items ++ attrs_among (read_row l.number (l.number ∷ []) (nodes_from (picked (map node_view l.nodes) (drop l.place-index l.place-items))));
  items : list_of (items_among (read_row l.number (l.number ∷ []) (nodes_view l.nodes)))
      ≡ map lent_tree_view l.items.items ++ list_of (items_among (read_row l.number (l.number ∷ []) (nodes_from (picked (map node_view l.nodes) (drop l.place-index l.place-items)))));
}

-- what is done, and then what the nodes that are left give
abbrev pub invariant-lend_each-loop-node : goal.invariant-lend_each-loop-node
invariant-lend_each-loop-node l = record {
  at : l.place ≡ l.node-index;
  attrs : attrs_among (read_row l.number (l.number ∷ []) (nodes_view l.nodes))
      ≡ map lent_attr_view l.attrs.items ++ attrs_among (read_row l.number (l.number ∷ []) (nodes_view (drop l.node-index l.nodes)));
  items : list_of (items_among (read_row l.number (l.number ∷ []) (nodes_view l.nodes)))
      ≡ map lent_tree_view l.items.items ++ list_of (items_among (read_row l.number (l.number ∷ []) (nodes_view (drop l.node-index l.nodes))));
}

abbrev pub decreases-lend_node : goal.decreases-lend_node
decreases-lend_node l = node_size (node_view l.node.now) + node_size (node_view l.node.now)

abbrev pub decreases-lend_row : goal.decreases-lend_row
decreases-lend_row l = 1 + nodes_size (nodes_view l.nodes.now) + nodes_size (nodes_view l.nodes.now)

abbrev pub decreases-lend_found : goal.decreases-lend_found
decreases-lend_found l = nodes_size (nodes_view l.nodes.now) + nodes_size (nodes_view l.nodes.now)

abbrev pub decreases-lend_each : goal.decreases-lend_each
decreases-lend_each l = nodes_size (nodes_view l.nodes.now) + nodes_size (nodes_view l.nodes.now)
