use Rattle.std.proofs.Common.{◌≤◌, ◌-◌, length}
use Rattle.jsonml_text.proofs.scan.word_end.Given as goal

abbrev pub invariant-loop-at : goal.invariant-loop-at
invariant-loop-at l =
    record {
      later : l.from ≤ l.at;
      within : l.at ≤ length l.bytes;
    }

abbrev pub decreases-loop-at : goal.decreases-loop-at
decreases-loop-at l = length l.bytes - l.at
