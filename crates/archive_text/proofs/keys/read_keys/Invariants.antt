use Rattle.std.proofs.Common.{◌≢◌, ◌≤◌, ◌-◌, ◌++◌, ◌∷◌, ℕ, List, codes, length, drop, map, string_bytes}
use Rattle.jsonml_lines.specs.Lines.{PlainLine}
use Rattle.archive_text.specs.Export.{key_line}
use Rattle.archive_text.specs.Reading.{AreLines}
use Rattle.archive_text.proofs.ReadKeys.{KeysLeft}
use Rattle.archive_text.proofs.keys.read_keys.Given as goal

abbrev pub invariant-loop-text : goal.invariant-loop-text
invariant-loop-text l =
    record {
      left : (lines : List (List ℕ)) (m : PlainLine) (rest : List PlainLine) → m.word ≢ codes "key" → AreLines (map key_line lines ++ m ∷ rest) (drop l.fn.start l.bytes) → KeysLeft lines m rest (string_bytes l.text) (drop l.at l.bytes);
      within : l.at ≤ length l.bytes;
    }

abbrev pub decreases-loop-text : goal.decreases-loop-text
decreases-loop-text l = length l.bytes - l.at
