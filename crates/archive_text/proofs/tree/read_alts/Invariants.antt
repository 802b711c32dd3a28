use Rattle.std.proofs.Common.{◌≤◌, ◌-◌, ◌++◌, ◌∷◌, List, length, drop, map, IsTrue}
use Rattle.std.specs.List.{AllByRecursion}
use Rattle.archive_tree.specs.Data.{PlainAlt}
use Rattle.archive_tree.specs.View.{alt_view}
use Rattle.archive_tree.specs.WellFormed.{are_alts_well_formed}
use Rattle.record_format.specs.Shapes.{IsShapedAlt}
use Rattle.jsonml_lines.specs.Lines.{PlainLine}
use Rattle.archive_text.specs.Export.{alt_line, end_line}
use Rattle.archive_text.specs.Reading.{AreLines}
use Rattle.archive_text.proofs.ReadTree.{AltsLeft}
use Rattle.archive_text.proofs.tree.read_alts.Given as goal

abbrev pub invariant-loop-alts : goal.invariant-loop-alts
invariant-loop-alts l =
    record {
      left : (xs : List PlainAlt) (rest : List PlainLine) → AllByRecursion IsShapedAlt xs → AreLines (map alt_line xs ++ end_line ∷ rest) (drop l.fn.start l.bytes) → AltsLeft xs rest (map alt_view l.alts.items) (drop l.at l.bytes);
      further : l.fn.start ≤ l.at;
      within : l.at ≤ length l.bytes;
      well_formed : IsTrue (are_alts_well_formed (map alt_view l.alts.items));
    }

abbrev pub decreases-loop-alts : goal.decreases-loop-alts
decreases-loop-alts l = length l.bytes - l.at
