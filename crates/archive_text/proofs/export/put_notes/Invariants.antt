use Rattle.std.proofs.Common.{◌≡◌, ◌++◌, ◌+◌, map, drop, string_bytes}
use Rattle.xa_outside.specs.InMemory.{sink_state}
use Rattle.archive_text.specs.Export.{note_lines, lines_text}
use Rattle.archive_text.proofs.export.put_notes.Given as goal

abbrev pub invariant-loop-index : goal.invariant-loop-index
invariant-loop-index l = (sink_state l.out).taken ++ lines_text (note_lines (l.index + 1) (map string_bytes (drop l.index l.notes))) ≡ (sink_state l.fn.out).taken ++ lines_text (note_lines 1 (map string_bytes l.notes))
