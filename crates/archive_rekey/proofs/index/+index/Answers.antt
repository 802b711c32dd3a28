use Rattle.std.proofs.Common.{◌∙◌, ◌+◌, map, ap, sym, subst}
use Rattle.std.proofs.lemmas.Result.{IfOk-weaker}
use Rattle.std.specs.Option.{option_map}
use Rattle.keyed_tree.specs.View.{label_view}
use Rattle.archive_tree.specs.View.{node_view, stamp_view}
use Rattle.archive_tree.proofs.NodeViews.{node_view-Inner}
use Rattle.archive_rekey.specs.Index.{IsBelow, IsNodeIndex, IsRowIndex, below_view, index_view}
use Rattle.archive_rekey.proofs.IndexLemmas.{inner-index, item-at, one-more}
use Rattle.archive_rekey.proofs.index.+index.Goals as goal
use Rattle.archive_rekey.proofs.index.+index.Goals.{index_kids-in-Some+in_ok-push, index_kids-in_default}

pub index_kids-loop-node-preserved : goal.index_kids-loop-node-preserved
index_kids-loop-node-preserved t c = record {
  at = ap (λ i. i + 1) c.loop-node.invariant.at;
  below = elim c.match-branch-2.branch [
    | index_kids-in-Some+in_ok-push w ↦ (
        let nodes = c.args.nodes.now in
        let k = node_view c.node-item.result in
        let at = item-at nodes c.loop-node.place c.loop-node.node-index c.node-item.result c.loop-node.invariant.at c.loop-node-test.true c.node-item.is in
        let is = subst (λ o. IsNodeIndex (option_map index_view o) k) w.in-Some.is c.in_ok-index.ensures in
        one-more c.loop-node.below.items c.match-branch-2.below.items c.loop-node.place w.in-Some.index (map node_view nodes) k (ap (λ z. z.items) w.below-is ∙ w.in_ok-push.ensures.items) c.loop-node.invariant.below at is)
    | index_kids-in_default w ↦ subst (λ z. IsBelow (below_view z.items) (map node_view c.args.nodes.now)) (sym w.below-is) c.loop-node.invariant.below
  ];
}

pub index_node-returns-in-Inner : goal.index_node-returns-in-Inner
index_node-returns-in-Inner t c =
    let kids = c.in-Inner.kids.items in
    let is = ap node_view c.in-Inner.is ∙ node_view-Inner c.in-Inner.label c.in-Inner.stamp c.in-Inner.kids in
    IfOk-weaker c.index_of.result _ _ (λ o h. inner-index (option_map index_view o) (node_view c.args.node.now) (label_view c.in-Inner.label) (stamp_view c.in-Inner.stamp) (map node_view kids) is
    (subst (λ ks. IsRowIndex (option_map index_view o) (map node_view ks)) c.deref.ensures.value h)) c.index_of.ensures
