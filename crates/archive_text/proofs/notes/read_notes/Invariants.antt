use Rattle.std.proofs.Common.{◌≡◌, ◌≢◌, ◌≤◌, ◌-◌, ◌++◌, ◌∷◌, ℕ, List, codes, length, drop, map, string_bytes}
use Rattle.jsonml_lines.specs.Lines.{PlainLine}
use Rattle.archive_text.specs.Export.{note_lines}
use Rattle.archive_text.specs.Reading.{AreLines}
use Rattle.archive_text.proofs.ReadNotes.{NotesLeft}
use Rattle.archive_text.proofs.notes.read_notes.Given as goal

abbrev pub invariant-loop-notes : goal.invariant-loop-notes
invariant-loop-notes l =
    record {
      left : (notes : List (List ℕ)) (m : PlainLine) (rest : List PlainLine) → length notes ≡ l.n → m.word ≢ codes "note" → AreLines (note_lines 1 notes ++ m ∷ rest) (drop l.fn.start l.bytes) → NotesLeft notes m rest (map string_bytes l.notes.items) (drop l.at l.bytes);
      within : l.at ≤ length l.bytes;
    }

abbrev pub decreases-loop-notes : goal.decreases-loop-notes
decreases-loop-notes l = length l.bytes - l.at
