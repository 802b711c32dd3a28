use Rattle.std.proofs.Common.{◌≡◌, ◌≢◌, None}
use Rattle.record_writer.specs.View.{writer_view}
use Rattle.test_records.proofs.files.write_alternatives.Given as goal

-- the leaf stands begun
abbrev pub invariant-loop-stored : goal.invariant-loop-stored
invariant-loop-stored l =
    record {
      leaf : (writer_view l.writer).leaf ≢ None;
      inners : (writer_view l.writer).inners ≡ (writer_view l.fn.writer).inners;
    }
