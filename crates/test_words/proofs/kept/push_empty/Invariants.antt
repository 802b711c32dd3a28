use Rattle.std.proofs.Common.{◌≡◌, ◌+◌}
use Rattle.test_words.proofs.kept.push_empty.Given as goal

abbrev pub invariant-loop : goal.invariant-loop
invariant-loop l = record { pushed : l.writer.pushed ≡ l.initial.writer.pushed + l.counter; at_once : l.writer.at_once ≡ l.initial.writer.at_once }
