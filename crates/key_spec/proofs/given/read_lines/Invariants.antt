use Rattle.std.proofs.Common.{◌≡◌, ◌++◌, ◌+◌, ◌≤◌, map, length}
use Rattle.key_spec.specs.Lines.{lines}
use Rattle.key_spec.specs.Closed.{numbered, given_rules, line_fault, first_of_all}
use Rattle.key_spec.specs.View.{given_view}
use Rattle.key_spec.proofs.given.read_lines.Given as goal

-- the lines so far have no fault, and their rules and those of the lines that are left are all of them
abbrev pub invariant-loop-rest : goal.invariant-loop-rest
invariant-loop-rest l = record {
  faults : first_of_all line_fault (numbered 1 (lines l.text)) ≡ first_of_all line_fault (numbered (l.number + 1) (lines l.rest));
  rules : given_rules (numbered 1 (lines l.text)) ≡ map given_view l.given.items ++ given_rules (numbered (l.number + 1) (lines l.rest));
  numbers : l.number + length l.rest ≤ length l.text;
}

abbrev pub decreases-loop-rest : goal.decreases-loop-rest
decreases-loop-rest l = length l.rest
