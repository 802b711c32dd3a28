use Rattle.std.proofs.Common.{◌≡◌, drop, map, string_bytes}
use Rattle.std.specs.List.{list_all}
use Rattle.version_notes.specs.Notes.{is_note}
use Rattle.archive_text.proofs.read.are_notes.Given as goal

abbrev pub invariant-loop-note : goal.invariant-loop-note
invariant-loop-note l = list_all is_note (map string_bytes (drop l.note-index l.notes)) ≡ list_all is_note (map string_bytes l.notes)
