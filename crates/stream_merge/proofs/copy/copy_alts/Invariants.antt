use Rattle.std.proofs.Common.{◌-◌}
use Rattle.record_copy.specs.State.{state}
use Rattle.stream_merge.proofs.Copies.{AltsOn}
use Rattle.stream_merge.proofs.copy.copy_alts.Given as goal

-- so many alternatives were copied
abbrev pub invariant-loop-stamp : goal.invariant-loop-stamp
invariant-loop-stamp g l =
    let f = g.F.Folder in
    AltsOn (state f.files f.draft f.numbers f.faults l.fn.folder l.fn.cursor l.fn.writer) (state f.files f.draft f.numbers f.faults l.folder l.cursor l.writer)

abbrev pub decreases-loop-stamp : goal.decreases-loop-stamp
decreases-loop-stamp g l = l.cursor.length - l.cursor.at
