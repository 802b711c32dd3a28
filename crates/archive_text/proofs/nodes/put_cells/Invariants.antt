use Rattle.std.proofs.Common.{◌≤◌, take}
use Rattle.std.specs.List.{flat_map}
use Rattle.xa_outside.specs.Taken.{Takes}
use Rattle.archive_text.proofs.LineParts.{cell_part}
use Rattle.archive_text.proofs.nodes.put_cells.Given as goal

abbrev pub invariant-loop-cell : goal.invariant-loop-cell
invariant-loop-cell g l =
    record {
      bytes : Takes (g.K.Sink.taken l.initial.out) (g.K.Sink.taken l.out) (flat_map cell_part (take l.cell-index l.cells));
      later : g.K.Sink.faults l.initial.out ≤ g.K.Sink.faults l.out;
    }
