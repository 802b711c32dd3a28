use Rattle.std.proofs.Common.{rules, ◌≡◌, ◌∙◌, ◌++◌, [], map, length, ap, subst, arith}
use Rattle.std.proofs.lemmas.List.{nil_from_length}
use Rattle.std.specs.List.{AllByRecursion}
use Rattle.std.specs.Vec.Iter.{into_iter_items}
use Rattle.keyed_tree.specs.View.{label_view}
use Rattle.archive_tree.specs.View.{stamp_view}
use Rattle.spelled_archive.specs.View.{alt_view, node_view}
use Rattle.spelled_archive.specs.declared.node.SNode.{the_lemmas}
use Rattle.spelled_archive.proofs.NodeViews.{node_view-Inner, node_view-Leaf}
use Rattle.version_runs.specs.Spread.{spread_node, IsNodeWithin}
use Rattle.archive_rekey.proofs.SpreadRows.{inner-spread, inner-within, leaf-spread, leaf-within, made-all, made-on}
use Rattle.archive_rekey.proofs.spread.+spread.Goals as goal

pub spread_nodes-loop-node-preserved : goal.spread_nodes-loop-node-preserved
spread_nodes-loop-node-preserved t c =
    let l = c.loop-node in
    let left = c.in-Some.ensures.steps.0 in
    let f = spread_node c.args.starts.now c.args.last in
    record {
      within = (subst (λ z. AllByRecursion (IsNodeWithin (length c.args.starts.now)) (map node_view z)) left l.invariant.within).1;
      whole = made-on node_view f l.spread.items c.push.new.self.items c.in_ok-done.done (node_view c.in-Some.node) (map node_view (into_iter_items c.next.new.self)) (map f (map node_view c.args.nodes.items))
          (subst (λ z. map node_view l.spread.items ++ map f (map node_view z) ≡ map f (map node_view c.args.nodes.items)) left l.invariant.whole) c.in_ok-push.ensures.items c.in_ok-done.ensures;
    }

pub spread_nodes-returns : goal.spread_nodes-returns
spread_nodes-returns t c =
    let l = c.loop-node in
    let f = spread_node c.args.starts.now c.args.last in
    let none : into_iter_items l.node-iterator ≡ [] = nil_from_length (into_iter_items l.node-iterator) (let end = c.in-None.ensures.steps.0 in omega arith) in
    made-all node_view f l.spread.items (into_iter_items l.node-iterator) (map f (map node_view c.args.nodes.items)) l.invariant.whole none

pub spread_node-spread_stamp-requires-clause-within : goal.spread_node-spread_stamp-requires-clause-within
spread_node-spread_stamp-requires-clause-within t c =
    let i = c.in-Inner in
    (inner-within (length c.args.starts.now) (node_view c.args.node) (label_view i.label) (stamp_view i.stamp) (map node_view i.kids.items) (ap node_view i.is ∙ node_view-Inner i.label i.stamp i.kids) c.requires.within).0

pub spread_node-spread_nodes-requires : goal.spread_node-spread_nodes-requires
spread_node-spread_nodes-requires t c =
    let i = c.in-Inner in
    (search (rules, the_lemmas), (c.requires.starts, (inner-within (length c.args.starts.now) (node_view c.args.node) (label_view i.label) (stamp_view i.stamp) (map node_view i.kids.items) (ap node_view i.is ∙ node_view-Inner i.label i.stamp i.kids) c.requires.within).1))

pub spread_node-spread_stamp-requires-in-Leaf-clause-within : goal.spread_node-spread_stamp-requires-in-Leaf-clause-within
spread_node-spread_stamp-requires-in-Leaf-clause-within t c =
    let i = c.in-Leaf in
    (leaf-within (length c.args.starts.now) (node_view c.args.node) (label_view i.label) (stamp_view i.stamp) (map alt_view i.alts.items) (ap node_view i.is ∙ node_view-Leaf i.label i.stamp i.alts) c.requires.within).0

pub spread_node-spread_alts-requires-clause-within : goal.spread_node-spread_alts-requires-clause-within
spread_node-spread_alts-requires-clause-within t c =
    let i = c.in-Leaf in
    (leaf-within (length c.args.starts.now) (node_view c.args.node) (label_view i.label) (stamp_view i.stamp) (map alt_view i.alts.items) (ap node_view i.is ∙ node_view-Leaf i.label i.stamp i.alts) c.requires.within).1

pub spread_node-returns-in_ok-spread_nodes-in-Inner : goal.spread_node-returns-in_ok-spread_nodes-in-Inner
spread_node-returns-in_ok-spread_nodes-in-Inner t c =
    let i = c.in-Inner in
    node_view-Inner _ _ _
    ∙ inner-spread c.args.starts.now c.args.last (node_view c.args.node) (label_view i.label) (stamp_view i.stamp) _ (map node_view i.kids.items) _ (ap node_view i.is ∙ node_view-Inner i.label i.stamp i.kids) c.in_ok-spread_stamp-in-Inner.ensures c.in_ok-spread_nodes-in-Inner.ensures

pub spread_node-returns-in_ok-spread_alts-in-Leaf : goal.spread_node-returns-in_ok-spread_alts-in-Leaf
spread_node-returns-in_ok-spread_alts-in-Leaf t c =
    let i = c.in-Leaf in
    node_view-Leaf _ _ _
    ∙ leaf-spread c.args.starts.now c.args.last (node_view c.args.node) (label_view i.label) (stamp_view i.stamp) _ (map alt_view i.alts.items) _ (ap node_view i.is ∙ node_view-Leaf i.label i.stamp i.alts) c.in_ok-spread_stamp-in-Leaf.ensures c.in_ok-spread_alts-in-Leaf.ensures
