use Rattle.std.proofs.Common.{◌≤◌, take}
use Rattle.std.specs.List.{flat_map}
use Rattle.archive_tree.specs.View.{node_view}
use Rattle.xa_outside.specs.Taken.{Takes}
use Rattle.archive_text.specs.Export.{node_lines, lines_text}
use Rattle.archive_text.proofs.nodes.+put.Given as goal

abbrev pub invariant-put_nodes-loop-node : goal.invariant-put_nodes-loop-node
invariant-put_nodes-loop-node g l =
    record {
      bytes : Takes (g.K.Sink.taken l.initial.out) (g.K.Sink.taken l.out) (flat_map (λ k. lines_text (node_lines (node_view k))) (take l.node-index l.nodes));
      later : g.K.Sink.faults l.initial.out ≤ g.K.Sink.faults l.out;
    }
