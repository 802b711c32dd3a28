use Rattle.std.proofs.Common.{◌≡◌, drop}
use Rattle.keyed_tree.specs.View.{label_view}
use Rattle.archive_tree.specs.Stands.{labels}
use Rattle.archive_tree.specs.Seek.{rise, rise_from}
use Rattle.archive_tree.specs.View.{nodes_view}
use Rattle.archive_tree.proofs.check.do_labels_rise.Given as goal

-- what is left decides, above the last label
abbrev pub invariant-loop-node : goal.invariant-loop-node
invariant-loop-node l = rise (labels (nodes_view l.nodes)) ≡ rise_from (label_view l.last) (labels (nodes_view (drop l.node-index l.rest)))
