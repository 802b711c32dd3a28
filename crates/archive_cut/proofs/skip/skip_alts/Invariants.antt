use Rattle.std.proofs.Common.{◌-◌}
use Rattle.record_writer.specs.Data.{PlainWriter}
use Rattle.record_copy.specs.State.{beside}
use Rattle.archive_cut.proofs.Skips.{AltsOn}
use Rattle.archive_cut.proofs.skip.skip_alts.Given as goal

-- so many alternatives were passed over
abbrev pub invariant-loop : goal.invariant-loop
invariant-loop g l =
    let f = g.F.Folder in
    (w : PlainWriter) → AltsOn (beside f.files f.draft f.numbers f.faults l.fn.folder l.fn.cursor w) (beside f.files f.draft f.numbers f.faults l.folder l.cursor w)

abbrev pub decreases-loop : goal.decreases-loop
decreases-loop g l = l.cursor.length - l.cursor.at
