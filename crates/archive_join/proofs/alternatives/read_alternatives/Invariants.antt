use Rattle.std.proofs.Common.{◌-◌}
use Rattle.record_copy.specs.State.{beside}
use Rattle.record_writer.specs.Data.{PlainWriter}
use Rattle.archive_join.proofs.Alternating.{ReadOn}
use Rattle.archive_join.proofs.alternatives.read_alternatives.Given as goal

-- so many alternatives were read
abbrev pub invariant-loop-all : goal.invariant-loop-all
invariant-loop-all g l =
    let f = g.F.Folder in
    (w : PlainWriter) → ReadOn l.fn.raise.by (beside f.files f.draft f.numbers f.faults l.fn.folder l.fn.cursor w) (beside f.files f.draft f.numbers f.faults l.folder l.cursor w) l.all.items

abbrev pub decreases-loop-all : goal.decreases-loop-all
decreases-loop-all g l = l.cursor.length - l.cursor.at
