use Rattle.std.proofs.Common.{IsTrue, ◌++◌, ◌∷◌, sym, ◌∙◌, subst, refl, arith}
use Rattle.std.proofs.lemmas.Bool.{and_from}
use Rattle.archive_tree.specs.Data.{PlainNode, inner_node, leaf_node, node_label, node_stamp}
use Rattle.archive_tree.specs.WellFormed.{is_node_well_formed}
use Rattle.archive_tree.proofs.NodeViews.{node_view-Inner, node_view-Leaf}
use Rattle.archive_text.specs.Export.{end_line, nodes_lines}
use Rattle.archive_text.proofs.Found.{hands_on, moved, read_fails}
use Rattle.archive_text.proofs.ReadTree.{node_begun_at, leaf_at, inner_at, row_start, row_end, row_next, row_on, row_pushed, nodes_well}
use Rattle.archive_text.proofs.tree.+read.Goals as goal

pub read_node-returns-in_err-label-clause-found : goal.read_node-returns-in_err-label-clause-found
read_node-returns-in_err-label-clause-found t c = λ k ls rest good is lies. (
    let n = node_begun_at _ k _ ls rest good is in
    hands_on _ _ c.from_residual.result c.in_err-label.field-0.0 c.from_residual.ensures.1 (c.in_err-label.ensures.found (node_label k) (node_stamp k) n.named n.stamp n.cells))

pub read_node-returns-in_err-alts-clause-found : goal.read_node-returns-in_err-alts-clause-found
read_node-returns-in_err-alts-clause-found t c = λ k ls rest good is lies. (
    let leaf = leaf_at _ k _ ls rest good is (c.has_word-is_leaf.ensures.yes c.if-is_leaf.true) in
    hands_on _ _ c.from_residual-in_err-alts.result c.in_err-alts.field-0.0 c.from_residual-in_err-alts.ensures.1
    (c.in_err-alts.ensures.found leaf.alts rest leaf.shaped (moved _ _ _ leaf.lines lies)))

pub read_node-returns-then-is_leaf-clause-found : goal.read_node-returns-then-is_leaf-clause-found
read_node-returns-then-is_leaf-clause-found t c = λ k ls rest good is lies. (
    let n = node_begun_at _ k _ ls rest good is in
    let leaf = leaf_at _ k _ ls rest good is (c.has_word-is_leaf.ensures.yes c.if-is_leaf.true) in
    let begun = c.in_ok-label.ensures.found (node_label k) (node_stamp k) n.named n.stamp n.cells in
    let alts = c.in_ok-alts.ensures.found leaf.alts rest leaf.shaped (moved _ _ _ leaf.lines lies) in
    (node_view-Leaf c.in_ok-label.label c.in_ok-label.stamp c.in_ok-alts.alts ∙ (λ i. leaf_node (begun.0 i) (begun.1 i) (alts.0 i)) ∙ sym leaf.is, alts.1))

pub read_node-returns-then-is_leaf-clause-further : goal.read_node-returns-then-is_leaf-clause-further
read_node-returns-then-is_leaf-clause-further t c = c.in_ok-alts.ensures.further

pub read_node-returns-then-is_leaf-clause-within : goal.read_node-returns-then-is_leaf-clause-within
read_node-returns-then-is_leaf-clause-within t c = c.in_ok-alts.ensures.within

pub read_node-returns-then-is_leaf-clause-well_formed : goal.read_node-returns-then-is_leaf-clause-well_formed
read_node-returns-then-is_leaf-clause-well_formed t c =
    subst (λ (k : PlainNode). IsTrue (is_node_well_formed k)) (sym (node_view-Leaf c.in_ok-label.label c.in_ok-label.stamp c.in_ok-alts.alts)) (and_from _ _ c.in_ok-label.ensures.well_formed c.in_ok-alts.ensures.well_formed)

pub read_node-returns-then-depth-eq0-clause-found : goal.read_node-returns-then-depth-eq0-clause-found
read_node-returns-then-depth-eq0-clause-found t c = λ k ls rest good is lies. (
    let inner = inner_at _ k _ ls rest good is (c.has_word-is_leaf.ensures.no c.if-is_leaf.false) in
    omega (arith, inner.some, c.if-depth-eq0.true))

pub read_node-returns-in_err-kids-clause-found : goal.read_node-returns-in_err-kids-clause-found
read_node-returns-in_err-kids-clause-found t c = λ k ls rest good is lies. (
    let inner = inner_at _ k _ ls rest good is (c.has_word-is_leaf.ensures.no c.if-is_leaf.false) in
    hands_on _ _ c.from_residual-in_err-kids.result c.in_err-kids.field-0.0 c.from_residual-in_err-kids.ensures.1 (c.in_err-kids.ensures.found inner.kids rest inner.good (moved _ _ _ inner.lines lies)))

pub read_node-returns-clause-found : goal.read_node-returns-clause-found
read_node-returns-clause-found t c = λ k ls rest good is lies. (
    let n = node_begun_at _ k _ ls rest good is in
    let inner = inner_at _ k _ ls rest good is (c.has_word-is_leaf.ensures.no c.if-is_leaf.false) in
    let begun = c.in_ok-label.ensures.found (node_label k) (node_stamp k) n.named n.stamp n.cells in
    let kids = c.in_ok-kids.ensures.found inner.kids rest inner.good (moved _ _ _ inner.lines lies) in
    (node_view-Inner c.in_ok-label.label c.in_ok-label.stamp c.in_ok-kids.kids ∙ (λ i. inner_node (begun.0 i) (begun.1 i) (kids.0 i)) ∙ sym inner.is, kids.1))

pub read_node-returns-clause-further : goal.read_node-returns-clause-further
read_node-returns-clause-further t c = c.in_ok-kids.ensures.further

pub read_node-returns-clause-within : goal.read_node-returns-clause-within
read_node-returns-clause-within t c = c.in_ok-kids.ensures.within

pub read_node-returns-clause-well_formed : goal.read_node-returns-clause-well_formed
read_node-returns-clause-well_formed t c =
    subst (λ (k : PlainNode). IsTrue (is_node_well_formed k)) (sym (node_view-Inner c.in_ok-label.label c.in_ok-label.stamp c.in_ok-kids.kids)) (and_from _ _ c.in_ok-label.ensures.well_formed c.in_ok-kids.ensures.well_formed)

-- ---- rows

pub read_row-loop-nodes-init : goal.read_row-loop-nodes-init
read_row-loop-nodes-init t c =
    record {
      left = λ ks rest g h. rw c.new-nodes.ensures.items (row_start ks rest _ _ g h);
      further = omega arith;
      within = c.requires;
      well_formed = rw c.new-nodes.ensures.items refl;
    }

pub read_row-returns-in_err-line-clause-found : goal.read_row-returns-in_err-line-clause-found
read_row-returns-in_err-line-clause-found t c = λ ks rest g h. (
    let left = c.loop-nodes.invariant.left ks rest g h in
    read_fails (nodes_lines left.left) end_line rest _ _ _ c.from_residual.result c.in_err-line.field-0.0 c.from_residual.ensures.1 left.lies c.in_err-line.ensures.found)

pub read_row-returns-then-has_word-clause-found : goal.read_row-returns-then-has_word-clause-found
read_row-returns-then-has_word-clause-found t c = λ ks rest g h.
    row_end ks rest _ _ _ _ _ (c.loop-nodes.invariant.left ks rest g h) c.in_ok-line.ensures.found (c.has_word.ensures.yes c.if-has_word.true)

pub read_row-returns-then-has_word-clause-further : goal.read_row-returns-then-has_word-clause-further
read_row-returns-then-has_word-clause-further t c = omega (arith, c.loop-nodes.invariant.further, c.in_ok-line.ensures.further)

pub read_row-returns-in_err-node-clause-found : goal.read_row-returns-in_err-node-clause-found
read_row-returns-in_err-node-clause-found t c = λ ks rest g h. (
    let n = row_next ks rest _ _ _ _ _ (c.loop-nodes.invariant.left ks rest g h) c.in_ok-line.ensures.found (c.has_word.ensures.no c.if-has_word.false) in
    hands_on _ _ c.from_residual-in_err-node.result c.in_err-node.field-0.0 c.from_residual-in_err-node.ensures.1
    (c.in_err-node.ensures.found n.first n.behind (nodes_lines n.others ++ end_line ∷ rest) n.good n.is n.lines))

pub read_row-loop-nodes-preserved : goal.read_row-loop-nodes-preserved
read_row-loop-nodes-preserved t c =
    record {
      left = λ ks rest g h. (
          let n = row_next ks rest _ _ _ _ _ (c.loop-nodes.invariant.left ks rest g h) c.in_ok-line.ensures.found (c.has_word.ensures.no c.if-has_word.false) in
          let found = c.in_ok-node.ensures.found n.first n.behind (nodes_lines n.others ++ end_line ∷ rest) n.good n.is n.lines in
          row_pushed ks rest _ _ _ _ _ (row_on ks rest _ _ _ _ n _ _ found.0 found.1) c.in_ok-push.ensures.items);
      further = omega (arith, c.loop-nodes.invariant.further, c.in_ok-line.ensures.further, c.in_ok-node.ensures.further);
      within = c.in_ok-node.ensures.within;
      well_formed = nodes_well _ _ _ c.in_ok-push.ensures.items c.loop-nodes.invariant.well_formed c.in_ok-node.ensures.well_formed;
    }
