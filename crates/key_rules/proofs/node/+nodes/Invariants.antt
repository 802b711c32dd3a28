use Rattle.std.proofs.Common.{◌≡◌, drop}
use Rattle.jsonml_tree.specs.LentView.{lent_items_view}
use Rattle.key_spec.specs.View.{path_view}
use Rattle.key_rules.specs.Few.{few, join, reached_view, values_among}
use Rattle.key_rules.proofs.node.+nodes.Given as goal

-- what was found, joined with what is left
abbrev pub invariant-nodes_among-loop-item : goal.invariant-nodes_among-loop-item
invariant-nodes_among-loop-item l =
    join (reached_view l.nodes) (few (values_among (path_view l.path) l.level (lent_items_view (drop l.item-index l.items)))) ≡ few (values_among (path_view l.path) l.level (lent_items_view l.items))
