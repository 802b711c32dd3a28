use Rattle.std.proofs.Common.{◌≡◌, ◌≤◌, Option, None, length}
use Rattle.version_set.specs.View.{pairs_of}
use Rattle.keyed_tree.specs.Data.{kids_from}
use Rattle.keyed_parts.specs.View.{kid_view, kids_view}
use Rattle.archive_tree.specs.View.{stamp_view}
use Rattle.record_cursor.specs.View.{PlainCursor}
use Rattle.record_writer.specs.View.{writer_view}
use Rattle.stream_merge.specs.Does.{Sent}
use Rattle.record_copy.specs.State.{State, state}
use Rattle.stream_merge.specs.declared.fault.MergeFault.{MergeFault}
use Rattle.stream_merge.proofs.Puts.{fresh_calls}
use Rattle.stream_merge.proofs.Weaving.{AreShapedKids}
use Rattle.stream_merge.proofs.Weights.{weights, row_weight, node_weight}
use Rattle.stream_merge.proofs.fresh.+put.Given as goal

abbrev pub decreases-put_kids : goal.decreases-put_kids
decreases-put_kids g l = row_weight (kids_view l.kids)

abbrev pub decreases-put_node : goal.decreases-put_node
decreases-put_node g l = node_weight (kid_view l.kid)

-- what is left gives the whole
abbrev pub invariant-put_kids-loop-kid : goal.invariant-put_kids-loop-kid
invariant-put_kids-loop-kid g l =
    record {
      no_leaf : (writer_view l.writer).leaf ≡ None;
      shaped : AreShapedKids (kids_view l.left);
      fewer : weights (kids_from (kids_view l.left)) ≤ weights (kids_from (kids_view l.kids));
      rest : (c : PlainCursor) → c.at ≤ c.length → (u : State) (e : Option MergeFault)
          → Sent (fresh_calls (pairs_of l.parent) (stamp_view l.stamp) (kids_view l.left)) (state g.F.Folder.files g.F.Folder.draft g.F.Folder.numbers g.F.Folder.faults l.folder c l.writer) u e
          → Sent (fresh_calls (pairs_of l.parent) (stamp_view l.stamp) (kids_view l.kids)) (state g.F.Folder.files g.F.Folder.draft g.F.Folder.numbers g.F.Folder.faults l.fn.folder c l.fn.writer) u e;
    }

abbrev pub decreases-put_kids-loop-kid : goal.decreases-put_kids-loop-kid
decreases-put_kids-loop-kid g l = length (kids_view l.left)
