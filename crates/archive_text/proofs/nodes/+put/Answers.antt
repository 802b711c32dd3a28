use Rattle.std.proofs.Common.{List, ℕ, ap, ◌∙◌, rules, subst}
use Rattle.keyed_tree.specs.View.{label_view}
use Rattle.archive_tree.specs.View.{node_view, stamp_view}
use Rattle.archive_tree.specs.declared.node.ANode.{ANode}
use Rattle.archive_tree.proofs.NodeViews.{node_view-Inner, node_view-Leaf}
use Rattle.xa_outside.specs.Taken.{Takes, TakesPrefix}
use Rattle.xa_outside.specs.TakenLaws.{Takes-nil, Takes-piece, Puts-piece, Puts-cut}
use Rattle.archive_text.specs.Export.{node_lines, lines_text}
use Rattle.archive_text.proofs.Chains.{second, three}
use Rattle.archive_text.proofs.LineLaws.{inner_is, leaf_is}
use Rattle.archive_text.proofs.SinkCauses.{sink-then}
use Rattle.archive_text.proofs.nodes.+put.Goals as goal

abbrev piece : ANode → List ℕ
piece k = lines_text (node_lines (node_view k))

-- ---- the nodes

pub put_nodes-loop-node-init : goal.put_nodes-loop-node-init
put_nodes-loop-node-init g t c = record { bytes = Takes-nil _; later = search rules }

pub put_nodes-loop-node-preserved : goal.put_nodes-loop-node-preserved
put_nodes-loop-node-preserved g t c =
    record {
      bytes = Takes-piece piece _ _ _ c.args.nodes.now c.loop-node.node-index c.node-item.result (search rules) c.loop-node.invariant.bytes
          (subst (λ (x : ANode). Takes (g.K.Sink.taken c.loop-node.out) (g.K.Sink.taken c.put_node.new.out) (piece x)) c.node-item.is c.in_ok-put_node.ensures.bytes);
      later = search rules;
    }

pub put_nodes-returns-in_err-put_node-clause-bytes : goal.put_nodes-returns-in_err-put_node-clause-bytes
put_nodes-returns-in_err-put_node-clause-bytes g t c = Puts-piece piece _ _ _ c.from_residual.result c.args.nodes.now c.loop-node.node-index c.node-item.result (search rules) (search rules) c.loop-node.invariant.bytes
    (subst (λ (x : ANode). TakesPrefix (g.K.Sink.taken c.loop-node.out) (g.K.Sink.taken c.put_node.new.out) (piece x)) c.node-item.is c.in_err-put_node.ensures.bytes)

pub put_nodes-returns-in_err-put_node-clause-cause : goal.put_nodes-returns-in_err-put_node-clause-cause
put_nodes-returns-in_err-put_node-clause-cause g t c = sink-then _ _ _ c.loop-node.invariant.later _ c.from_residual.result c.in_err-put_node.ensures.cause c.from_residual.ensures.1

-- ---- an inner node

pub put_node-returns-in_err-put_begun-in-Inner-clause-bytes : goal.put_node-returns-in_err-put_begun-in-Inner-clause-bytes
put_node-returns-in_err-put_begun-in-Inner-clause-bytes g t c =
    let i = c.in-Inner in
    Puts-cut _ _ c.from_residual.result _ _ _ (inner_is _ (label_view i.label) (stamp_view i.stamp) i.kids.items (ap node_view i.is ∙ node_view-Inner i.label i.stamp i.kids)) c.from_residual.ensures.0 c.in_err-put_begun-in-Inner.ensures.bytes

pub put_node-returns-in_err-put_nodes-in-Inner-clause-bytes : goal.put_node-returns-in_err-put_nodes-in-Inner-clause-bytes
put_node-returns-in_err-put_nodes-in-Inner-clause-bytes g t c =
    let i = c.in-Inner in
    second c.from_residual-in_err-put_nodes-in-Inner.result _ _ _ _ _ _ _ (inner_is _ (label_view i.label) (stamp_view i.stamp) i.kids.items (ap node_view i.is ∙ node_view-Inner i.label i.stamp i.kids)) c.from_residual-in_err-put_nodes-in-Inner.ensures.0
    c.in_ok-put_begun-in-Inner.ensures.bytes (rw c.deref.ensures.value at c.in_err-put_nodes-in-Inner.ensures.bytes)

pub put_node-returns-in_ok-put_nodes-in-Inner-clause-bytes : goal.put_node-returns-in_ok-put_nodes-in-Inner-clause-bytes
put_node-returns-in_ok-put_nodes-in-Inner-clause-bytes g t c =
    let i = c.in-Inner in
    three c.put_node_end.result _ _ _ _ _ _ _ _ (inner_is _ (label_view i.label) (stamp_view i.stamp) i.kids.items (ap node_view i.is ∙ node_view-Inner i.label i.stamp i.kids))
    c.in_ok-put_begun-in-Inner.ensures.bytes (rw c.deref.ensures.value at c.in_ok-put_nodes-in-Inner.ensures.bytes) c.put_node_end.ensures.bytes

-- ---- a leaf

pub put_node-returns-in_err-put_begun-in-Leaf-clause-bytes : goal.put_node-returns-in_err-put_begun-in-Leaf-clause-bytes
put_node-returns-in_err-put_begun-in-Leaf-clause-bytes g t c =
    let i = c.in-Leaf in
    Puts-cut _ _ c.from_residual-in_err-put_begun-in-Leaf.result _ _ _ (leaf_is _ (label_view i.label) (stamp_view i.stamp) i.alts.items (ap node_view i.is ∙ node_view-Leaf i.label i.stamp i.alts)) c.from_residual-in_err-put_begun-in-Leaf.ensures.0
    c.in_err-put_begun-in-Leaf.ensures.bytes

pub put_node-returns-in_err-put_alts-in-Leaf-clause-bytes : goal.put_node-returns-in_err-put_alts-in-Leaf-clause-bytes
put_node-returns-in_err-put_alts-in-Leaf-clause-bytes g t c =
    let i = c.in-Leaf in
    second c.from_residual-in_err-put_alts-in-Leaf.result _ _ _ _ _ _ _ (leaf_is _ (label_view i.label) (stamp_view i.stamp) i.alts.items (ap node_view i.is ∙ node_view-Leaf i.label i.stamp i.alts)) c.from_residual-in_err-put_alts-in-Leaf.ensures.0
    c.in_ok-put_begun-in-Leaf.ensures.bytes (rw c.deref-in-Leaf.ensures.value at c.in_err-put_alts-in-Leaf.ensures.bytes)

pub put_node-returns-in_ok-put_alts-in-Leaf-clause-bytes : goal.put_node-returns-in_ok-put_alts-in-Leaf-clause-bytes
put_node-returns-in_ok-put_alts-in-Leaf-clause-bytes g t c =
    let i = c.in-Leaf in
    three c.put_node_end-in-Leaf.result _ _ _ _ _ _ _ _ (leaf_is _ (label_view i.label) (stamp_view i.stamp) i.alts.items (ap node_view i.is ∙ node_view-Leaf i.label i.stamp i.alts))
    c.in_ok-put_begun-in-Leaf.ensures.bytes (rw c.deref-in-Leaf.ensures.value at c.in_ok-put_alts-in-Leaf.ensures.bytes) c.put_node_end-in-Leaf.ensures.bytes
