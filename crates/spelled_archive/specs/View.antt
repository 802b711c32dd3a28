-- The plain data that the nodes of a spelled archive stand for: that of the nodes of an archive.
use Rattle.std.specs.Prelude.{List, map}
use Rattle.keyed_tree.specs.Data.{PlainKey}
use Rattle.keyed_tree.specs.View.{key_view, label_view}
use Rattle.archive_tree.specs.Data.{PlainAlt, PlainNode, inner_node, leaf_node, PlainNodes, nodes_from}
use Rattle.archive_tree.specs.View.{stamp_view}
use Rattle.xa_fields.specs.Reading.{whole}
use Rattle.record_parts.specs.Reading.{value_at}
use Rattle.record_parts.specs.ShownViews.{value_in}
use Rattle.spelled_archive.specs.declared.body.KeptBody.{KeptBody}
use Rattle.spelled_archive.specs.declared.body.KeptBody.TheVariants as kept
use Rattle.spelled_archive.specs.declared.body.Spelled.{Spelled}
use Rattle.spelled_archive.specs.declared.node.Alt.{Alt}
use Rattle.spelled_archive.specs.declared.node.SNode.{SNode, SNode-F, fold-SNode}

-- the body whose encoding it is
abbrev pub spelled_view : Spelled → PlainKey
spelled_view s = value_in (whole value_at s.bytes.items)

abbrev pub kept_view : KeptBody → PlainKey
kept_view (kept.Own b) = key_view b.value
kept_view (kept.Spelled s) = spelled_view s

abbrev pub alt_view : Alt → PlainAlt
alt_view a = record { stamp = stamp_view a.stamp; body = kept_view a.body }

abbrev pub node_step : SNode-F PlainNode → PlainNode
node_step (SNode-F.Inner l s ks) = inner_node (label_view l) (stamp_view s) (nodes_from ks.items)
node_step (SNode-F.Leaf l s xs) = leaf_node (label_view l) (stamp_view s) (map alt_view xs.items)

abbrev pub node_view : SNode → PlainNode
node_view = fold-SNode PlainNode node_step

abbrev pub nodes_view : List SNode → PlainNodes
nodes_view ks = nodes_from (map node_view ks)
