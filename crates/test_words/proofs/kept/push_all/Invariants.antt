use Rattle.std.proofs.Common.{◌≡◌, ◌+◌}
use Rattle.test_words.proofs.kept.push_all.Given as goal

abbrev pub invariant-loop-note : goal.invariant-loop-note
invariant-loop-note l = record { pushed : l.writer.pushed ≡ l.initial.writer.pushed + l.note-index; at_once : l.writer.at_once ≡ l.initial.writer.at_once }
