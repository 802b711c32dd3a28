use Rattle.std.proofs.Common.{◌≡◌, ◌++◌, [], map, replicate, string_bytes}
use Rattle.archive_text.specs.Reading.{padded}
use Rattle.archive_text.proofs.notes.pad.Given as goal

abbrev pub invariant-loop-left : goal.invariant-loop-left
invariant-loop-left l = map string_bytes l.notes.items ++ replicate l.left [] ≡ padded (map string_bytes l.fn.notes.items) l.size

abbrev pub decreases-loop-left : goal.decreases-loop-left
decreases-loop-left l = l.left
