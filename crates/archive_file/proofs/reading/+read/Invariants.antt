use Rattle.std.proofs.Common.{◌≡◌, ◌≤◌, ◌+◌, ◌*◌, ◌-◌, ℕ, List, map, drop, length}
use Rattle.version_set.specs.View.{pairs_of}
use Rattle.archive_tree.specs.Data.{PlainNodes}
use Rattle.archive_tree.specs.View.{node_view}
use Rattle.record_format.specs.Nodes.{entries_from, node_piece}
use Rattle.record_format.specs.View.{entry_view}
use Rattle.archive_file.specs.Laid.{RowAt}
use Rattle.archive_file.proofs.LaidLaws.{RowLeft}
use Rattle.archive_file.proofs.ReadLaws.{RowDone}
use Rattle.archive_file.proofs.reading.+read.Given as goal

abbrev pub decreases-read_node : goal.decreases-read_node
decreases-read_node l = 2 * l.depth

abbrev pub decreases-read_row : goal.decreases-read_row
decreases-read_row l = 2 * l.depth + 1

-- what is left of the nodes that lie there, and what those so far are
abbrev pub invariant-read_row-loop-kind : goal.invariant-read_row-loop-kind
invariant-read_row-loop-kind l =
    record {
      left : (ks : PlainNodes) (rest : List ℕ) → RowAt (pairs_of l.set) ks rest l.depth (drop l.fn.start l.bytes) → RowLeft (pairs_of l.set) ks rest l.depth (map node_view l.nodes.items) (drop l.at l.bytes);
      done : RowDone (pairs_of l.set) l.depth (drop l.fn.start l.bytes) (map node_view l.nodes.items) (drop l.at l.bytes);
      entries : map entry_view l.entries.items ≡ entries_from 0 (map (node_piece (pairs_of l.set)) (map node_view l.nodes.items));
      each : length l.entries.items ≡ length l.nodes.items;
      further : l.fn.start ≤ l.at;
    }

abbrev pub decreases-read_row-loop-kind : goal.decreases-read_row-loop-kind
decreases-read_row-loop-kind l = length l.bytes - l.at
