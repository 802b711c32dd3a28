use Rattle.std.proofs.Common.{◌≡◌, ◌∙◌, None, Some, map, arith, refl, ap, sym, subst}
use Rattle.version_set.specs.Members.{members}
use Rattle.version_set.specs.View.{pairs_of}
use Rattle.keyed_tree.specs.View.{label_view}
use Rattle.archive_tree.specs.Data.{eff, node_stamp}
use Rattle.archive_tree.specs.Seek.{node_with, AreRowsSorted}
use Rattle.archive_tree.specs.View.{node_view}
use Rattle.archive_tree.proofs.Histories.{follow_none, follow_some, follow_sorted}
use Rattle.archive_tree.proofs.read.follow.Goals as goal

pub returns-in_default : goal.returns-in_default
returns-in_default c =
    let l = c.loop-label in
    let none : None ≡ node_with (label_view c.label-item.result) (map node_view l.nodes.now) = c.in_default.ensures in
    l.invariant.left ∙ follow_none label_view c.args.path.now l.label-index c.label-item.result (members (pairs_of l.set.now)) (map node_view l.nodes.now) (omega arith) c.label-item.is none

pub loop-label-preserved : goal.loop-label-preserved
loop-label-preserved c =
    let l = c.loop-label in
    let k = node_view c.in-Some.node.now in
    let some : Some k ≡ node_with (label_view c.label-item.result) (map node_view l.nodes.now) = c.in-Some.ensures in
    let set : members (pairs_of c.effective-set.result.now) ≡ eff (node_stamp k) (members (pairs_of l.set.now)) = c.effective-set.ensures.members ∙ ap (λ s. eff s (members (pairs_of l.set.now))) c.stamp.ensures in
    let step = follow_some label_view c.args.path.now l.label-index c.label-item.result (members (pairs_of l.set.now)) (map node_view l.nodes.now) k (omega arith) c.label-item.is some in
    record {
      sorted = subst AreRowsSorted (sym c.kids-nodes.ensures) (follow_sorted (label_view c.label-item.result) (map node_view l.nodes.now) k l.invariant.sorted some);
      left = l.invariant.left ∙ step ∙ rw (set, c.kids-nodes.ensures) refl;
    }
