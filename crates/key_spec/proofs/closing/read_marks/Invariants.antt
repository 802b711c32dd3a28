use Rattle.std.proofs.Common.{take}
use Rattle.key_spec.specs.Marks.{HoldMarks}
use Rattle.key_spec.specs.View.{rules_view}
use Rattle.key_spec.proofs.closing.read_marks.Given as goal

abbrev pub invariant-loop-one : goal.invariant-loop-one
invariant-loop-one l = HoldMarks l.marks (rules_view (take l.one-index l.given))
