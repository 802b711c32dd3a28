use Rattle.std.proofs.Common.{◌-◌}
use Rattle.record_copy.specs.State.{state}
use Rattle.record_copy.proofs.Alternating.{AlternativesOn}
use Rattle.record_copy.proofs.copy.copy_alternatives.Given as goal

-- so many alternatives were copied
abbrev pub invariant-loop-alternative : goal.invariant-loop-alternative
invariant-loop-alternative g l =
    let f = g.F.Folder in
    AlternativesOn l.fn.raise.by (state f.files f.draft f.numbers f.faults l.fn.folder l.fn.cursor l.fn.writer) (state f.files f.draft f.numbers f.faults l.folder l.cursor l.writer)

abbrev pub decreases-loop-alternative : goal.decreases-loop-alternative
decreases-loop-alternative g l = l.cursor.length - l.cursor.at
