-- The view of each shape of a node.
use Rattle.std.proofs.Common.{◌≡◌, map, Option, Vec, Global, rules}
use Rattle.version_set.specs.declared.set.VersionSet.{VersionSet}
use Rattle.keyed_tree.specs.View.{label_view}
use Rattle.keyed_tree.specs.declared.label.Label.{Label}
use Rattle.archive_tree.specs.Data.{inner_node, leaf_node, nodes_from}
use Rattle.archive_tree.specs.View.{stamp_view}
use Rattle.archive_tree.proofs.Parts.{nodes_list-nodes_from}
use Rattle.spelled_archive.specs.View.{alt_view, node_view}
use Rattle.spelled_archive.specs.declared.node.Alt.{Alt}
use Rattle.spelled_archive.specs.declared.node.SNode.{SNode, Inner, Leaf, the_lemmas}

pub node_view-Inner : (l : Label) (s : Option VersionSet) (ks : Vec SNode Global) → node_view (Inner l s ks) ≡ inner_node (label_view l) (stamp_view s) (nodes_from (map node_view ks.items))
node_view-Inner l s ks = search (rules, the_lemmas)

pub node_view-Leaf : (l : Label) (s : Option VersionSet) (xs : Vec Alt Global) → node_view (Leaf l s xs) ≡ leaf_node (label_view l) (stamp_view s) (map alt_view xs.items)
node_view-Leaf l s xs = search (rules, the_lemmas)

pub ruleset nodes = (node_view-Inner, node_view-Leaf, nodes_list-nodes_from)
