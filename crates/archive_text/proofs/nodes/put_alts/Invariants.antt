use Rattle.std.proofs.Common.{◌≤◌, take}
use Rattle.std.specs.List.{flat_map}
use Rattle.archive_tree.specs.View.{alt_view}
use Rattle.xa_outside.specs.Taken.{Takes}
use Rattle.jsonml_lines.specs.Lines.{line_text}
use Rattle.archive_text.specs.Export.{alt_line}
use Rattle.archive_text.proofs.nodes.put_alts.Given as goal

abbrev pub invariant-loop-alt : goal.invariant-loop-alt
invariant-loop-alt g l =
    record {
      bytes : Takes (g.K.Sink.taken l.initial.out) (g.K.Sink.taken l.out) (flat_map (λ x. line_text (alt_line (alt_view x))) (take l.alt-index l.alts));
      later : g.K.Sink.faults l.initial.out ≤ g.K.Sink.faults l.out;
    }
