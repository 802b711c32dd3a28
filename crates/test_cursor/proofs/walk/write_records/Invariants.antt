use Rattle.std.proofs.Common.{length}
use Rattle.record_writer.specs.View.{writer_view}
use Rattle.test_cursor.specs.Agrees.{Agrees}
use Rattle.test_cursor.proofs.walk.write_records.Given as goal

-- the writer stands where the walk does
abbrev pub invariant-loop : goal.invariant-loop
invariant-loop g l = Agrees (writer_view l.writer) (length l.sets.items) l.stand
