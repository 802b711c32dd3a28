use Rattle.std.proofs.Common.{◌≡◌, ◌++◌, map, length}
use Rattle.std.specs.List.{AllByRecursion}
use Rattle.keyed_tree.specs.View.{key_view}
use Rattle.jsonml_lines.specs.Lines.{cells_text}
use Rattle.jsonml_lines.specs.RoundTrip.{IsCell}
use Rattle.jsonml_lines.proofs.plain.plain_cells.Given as goal

abbrev pub invariant-loop-left : goal.invariant-loop-left
invariant-loop-left l =
    record {
      text : l.bytes ≡ cells_text (map key_view l.cells.items) ++ l.left;
      cells : AllByRecursion IsCell (map key_view l.cells.items);
    }

abbrev pub decreases-loop-left : goal.decreases-loop-left
decreases-loop-left l = length l.left
