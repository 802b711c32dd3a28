use Rattle.std.proofs.Common.{◌≤◌, ◌+◌, ◌*◌, ◌-◌, ◌++◌, ◌∷◌, List, length, drop, map, IsTrue}
use Rattle.archive_tree.specs.Data.{PlainNodes}
use Rattle.archive_tree.specs.View.{node_view, nodes_view}
use Rattle.archive_tree.specs.WellFormed.{are_nodes_well_formed}
use Rattle.jsonml_lines.specs.Lines.{PlainLine}
use Rattle.archive_text.specs.Export.{end_line, nodes_lines}
use Rattle.archive_text.specs.Reading.{AreLines, AreReadable}
use Rattle.archive_text.proofs.ReadTree.{RowLeft}
use Rattle.archive_text.proofs.tree.+read.Given as goal

abbrev pub decreases-read_node : goal.decreases-read_node
decreases-read_node l = 2 * l.depth

abbrev pub decreases-read_row : goal.decreases-read_row
decreases-read_row l = 2 * l.depth + 1

abbrev pub invariant-read_row-loop-nodes : goal.invariant-read_row-loop-nodes
invariant-read_row-loop-nodes l =
    record {
      left : (ks : PlainNodes) (rest : List PlainLine) → AreReadable l.depth ks → AreLines (nodes_lines ks ++ end_line ∷ rest) (drop l.fn.start l.bytes) → RowLeft ks rest l.depth (map node_view l.nodes.items) (drop l.at l.bytes);
      further : l.fn.start ≤ l.at;
      within : l.at ≤ length l.bytes;
      well_formed : IsTrue (are_nodes_well_formed (nodes_view l.nodes.items));
    }

abbrev pub decreases-read_row-loop-nodes : goal.decreases-read_row-loop-nodes
decreases-read_row-loop-nodes l = length l.bytes - l.at
