use Rattle.std.proofs.Common.{◌≡◌, ◌++◌, map, length, IsUtf8}
use Rattle.xa_outside.specs.InMemory.{sink_state}
use Rattle.archive_text.specs.Export.{key_line, lines_text}
use Rattle.archive_text.specs.Texts.{text_lines}
use Rattle.archive_text.proofs.export.put_lines.Given as goal

abbrev pub invariant-loop-line : goal.invariant-loop-line
invariant-loop-line l =
    record {
      utf8 : IsUtf8 l.left;
      wrote : (sink_state l.out).taken ++ lines_text (map key_line (text_lines l.left)) ≡ (sink_state l.fn.out).taken ++ lines_text (map key_line (text_lines l.fn.text));
    }

abbrev pub decreases-loop-line : goal.decreases-loop-line
decreases-loop-line l = length l.left
