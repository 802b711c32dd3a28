use Rattle.std.proofs.Common.{◌≡◌, ◌≤◌, ◌-◌, length}
use Rattle.jsonml_text.specs.Straight.{lexemes}
use Rattle.jsonml_text.proofs.scan.skip_blanks.Given as goal

abbrev pub invariant-loop-at : goal.invariant-loop-at
invariant-loop-at l =
    record {
      same : lexemes l.bytes l.at ≡ lexemes l.bytes l.from;
      later : l.from ≤ l.at;
      within : l.at ≤ length l.bytes;
    }

abbrev pub decreases-loop-at : goal.decreases-loop-at
decreases-loop-at l = length l.bytes - l.at
