use Rattle.std.proofs.Common.{◌≡◌, ◌≤◌, ◌-◌, drop, length}
use Rattle.json.specs.Lex.{in_string, lex}
use Rattle.jsonml_text.proofs.string.string_end.Given as goal

abbrev pub invariant-loop-at : goal.invariant-loop-at
invariant-loop-at l =
    record {
      passed : lex in_string (drop l.from l.bytes) ≡ lex in_string (drop l.at l.bytes);
      later : l.from ≤ l.at;
    }

abbrev pub decreases-loop-at : goal.decreases-loop-at
decreases-loop-at l = length l.bytes - l.at
