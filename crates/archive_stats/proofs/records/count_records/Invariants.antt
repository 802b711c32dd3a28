use Rattle.std.proofs.Common.{◌-◌}
use Rattle.archive_stats.specs.Counted.{seen}
use Rattle.archive_stats.specs.View.{counts_view}
use Rattle.archive_stats.proofs.Coming.{On}
use Rattle.archive_stats.proofs.records.count_records.Given as goal

-- the records that came are counted
abbrev pub invariant-loop-item : goal.invariant-loop-item
invariant-loop-item g l =
    let f = g.F.Folder in
    On (counts_view l.fn.before) l.fn.cursor (seen f.files f.draft f.numbers f.faults l.fn.folder) (counts_view l.counts) l.cursor (seen f.files f.draft f.numbers f.faults l.folder)

abbrev pub decreases-loop-item : goal.decreases-loop-item
decreases-loop-item g l = l.cursor.length - l.cursor.at
