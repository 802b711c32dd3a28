use Rattle.std.proofs.Common.{◌≡◌, None}
use Rattle.record_writer.specs.View.{writer_view}
use Rattle.test_records.proofs.files.+nodes.Given as goal

-- nothing more stands begun than before
abbrev pub invariant-write_nodes-loop-node : goal.invariant-write_nodes-loop-node
invariant-write_nodes-loop-node l =
    record {
      leaf : (writer_view l.writer).leaf ≡ None;
      inners : (writer_view l.writer).inners ≡ (writer_view l.fn.writer).inners;
    }
