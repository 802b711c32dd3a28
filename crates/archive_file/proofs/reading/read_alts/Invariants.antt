use Rattle.std.proofs.Common.{◌≤◌, ◌-◌, ℕ, List, ◌++◌, map, drop, length}
use Rattle.archive_tree.specs.Data.{PlainAlt}
use Rattle.archive_tree.specs.View.{alt_view}
use Rattle.archive_file.specs.Laid.{AltsAt}
use Rattle.archive_file.proofs.LaidLaws.{AltsLeft}
use Rattle.archive_file.proofs.reading.read_alts.Given as goal

-- what is left of the alternatives that lie there, and what lies there if some lie behind them
abbrev pub invariant-loop-alts : goal.invariant-loop-alts
invariant-loop-alts l =
    record {
      left : (xs : List PlainAlt) (rest : List ℕ) → AltsAt xs rest (drop l.fn.start l.bytes) → AltsLeft xs rest (map alt_view l.alts.items) (drop l.at l.bytes);
      done : (xs : List PlainAlt) (rest : List ℕ) → AltsAt xs rest (drop l.at l.bytes) → AltsAt (map alt_view l.alts.items ++ xs) rest (drop l.fn.start l.bytes);
      further : l.fn.start ≤ l.at;
    }

abbrev pub decreases-loop-alts : goal.decreases-loop-alts
decreases-loop-alts l = length l.bytes - l.at
