-- The plain data that each node stands for.
use Rattle.std.specs.Prelude.{List, Option, map}
use Rattle.std.specs.Option.{option_map}
use Rattle.version_set.specs.View.{pairs_of}
use Rattle.version_set.specs.declared.set.VersionSet.{VersionSet}
use Rattle.keyed_tree.specs.View.{key_view, label_view}
use Rattle.archive_tree.specs.Data.{Stamp, PlainAlt, PlainNode, inner_node, leaf_node, PlainNodes, nodes_from}
use Rattle.archive_tree.specs.declared.node.Alt.{Alt}
use Rattle.archive_tree.specs.declared.node.ANode.{ANode, ANode-F, fold-ANode}

abbrev pub stamp_view : Option VersionSet → Stamp
stamp_view s = option_map pairs_of s

abbrev pub alt_view : Alt → PlainAlt
alt_view a = record { stamp = stamp_view a.stamp; body = key_view a.body }

abbrev pub node_step : ANode-F PlainNode → PlainNode
node_step (ANode-F.Inner l s ks) = inner_node (label_view l) (stamp_view s) (nodes_from ks.items)
node_step (ANode-F.Leaf l s xs) = leaf_node (label_view l) (stamp_view s) (map alt_view xs.items)

abbrev pub node_view : ANode → PlainNode
node_view = fold-ANode PlainNode node_step

abbrev pub nodes_view : List ANode → PlainNodes
nodes_view ks = nodes_from (map node_view ks)
