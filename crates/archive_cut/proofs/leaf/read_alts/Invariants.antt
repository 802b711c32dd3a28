use Rattle.std.proofs.Common.{◌-◌}
use Rattle.version_set.specs.View.{pairs_of}
use Rattle.record_writer.specs.Data.{PlainWriter}
use Rattle.record_copy.specs.State.{beside}
use Rattle.archive_cut.proofs.Leaving.{ReadOn}
use Rattle.archive_cut.proofs.leaf.read_alts.Given as goal

-- so many alternatives were read
abbrev pub invariant-loop-held : goal.invariant-loop-held
invariant-loop-held g l =
    let f = g.F.Folder in
    (w : PlainWriter) → ReadOn l.fn.window.first l.fn.window.last (pairs_of l.fn.now) (beside f.files f.draft f.numbers f.faults l.fn.folder l.fn.cursor w) (beside f.files f.draft f.numbers f.faults l.folder l.cursor w) l.held.items

abbrev pub decreases-loop-held : goal.decreases-loop-held
decreases-loop-held g l = l.cursor.length - l.cursor.at
