use Rattle.std.proofs.Common.{◌-◌}
use Rattle.keyed_tree.specs.LentView.{lent_val_view}
use Rattle.record_copy.specs.State.{state}
use Rattle.stream_merge.specs.View.{inherited_view}
use Rattle.stream_merge.proofs.Alternatives.{Merging}
use Rattle.stream_merge.proofs.leaf.merge_alts.Given as goal

-- some alternatives were merged
abbrev pub invariant-loop-same : goal.invariant-loop-same
invariant-loop-same g l =
    let f = g.F.Folder in
    Merging (inherited_view l.own) (lent_val_view l.body) l.found (state f.files f.draft f.numbers f.faults l.fn.folder l.fn.cursor l.fn.writer) (state f.files f.draft f.numbers f.faults l.folder l.cursor l.writer)

abbrev pub decreases-loop-same : goal.decreases-loop-same
decreases-loop-same g l = l.cursor.length - l.cursor.at
