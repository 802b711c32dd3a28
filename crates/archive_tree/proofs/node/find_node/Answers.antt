use Rattle.std.proofs.Common.{◌∙◌, Some, map, ap, subst, rules}
use Rattle.std.proofs.lemmas.Fn.{always_returns_same}
use Rattle.keyed_tree.specs.Order.{label_cmp}
use Rattle.keyed_tree.specs.Lists.{Ascends}
use Rattle.keyed_tree.specs.View.{label_view}
use Rattle.keyed_tree.proofs.Kids.{search_seen}
use Rattle.archive_tree.specs.Data.{node_label}
use Rattle.archive_tree.specs.Stands.{labels}
use Rattle.archive_tree.specs.View.{node_view, nodes_view}
use Rattle.archive_tree.proofs.Histories.{rise-all}
use Rattle.archive_tree.proofs.Parts.{nodes_list-nodes_from}
use Rattle.archive_tree.proofs.node.find_node.Goals as goal

pub returns-in-Ok : goal.returns-in-Ok
returns-in-Ok c =
    let facts = c.binary_search_by.ensures in
    let by_label = facts.position (λ k. label_cmp (node_label (node_view k)) (label_view c.args.label.now)) (always_returns_same _ _ _ (λ a r g called. search rules)) in
    let up : Ascends label_cmp (map node_label (map node_view c.args.nodes.now)) = subst (λ ks. Ascends label_cmp (map node_label ks)) (nodes_list-nodes_from (map node_view c.args.nodes.now)) (rise-all (labels (nodes_view c.args.nodes.now)) c.requires) in
    let found = search_seen node_view node_label (label_view c.args.label.now) c.args.nodes.now c.binary_search_by.result up facts.bound by_label in
    let at = (rw c.in-Ok.is at found) in
    ap (λ k. Some (node_view k)) c.index-nodes-at.is ∙ at c.index-nodes-at.result

pub returns-in-Err : goal.returns-in-Err
returns-in-Err c =
    let facts = c.binary_search_by.ensures in
    let by_label = facts.position (λ k. label_cmp (node_label (node_view k)) (label_view c.args.label.now)) (always_returns_same _ _ _ (λ a r g called. search rules)) in
    let up : Ascends label_cmp (map node_label (map node_view c.args.nodes.now)) = subst (λ ks. Ascends label_cmp (map node_label ks)) (nodes_list-nodes_from (map node_view c.args.nodes.now)) (rise-all (labels (nodes_view c.args.nodes.now)) c.requires) in
    let found = search_seen node_view node_label (label_view c.args.label.now) c.args.nodes.now c.binary_search_by.result up facts.bound by_label in
    rw c.in-Err.is at found
