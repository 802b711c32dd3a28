-- What contracts see of a writer.
use Rattle.std.specs.Prelude.{◌≡◌, ◌^◌, ◌<◌, ◌≤◌, length}
use Rattle.record_format.specs.Spelling.{sets_bytes}
use Rattle.record_writer.specs.Data.{PlainWriter, WriterCall}
use Rattle.record_writer.specs.Calls.{appended, after}
use Rattle.record_writer.specs.Plans.{above_nodes, spelled}
use Rattle.record_writer.specs.Rows.{held}
use Rattle.record_writer.specs.declared.writer.Writer.{Writer}

abbrev pub writer_view : Writer → PlainWriter
writer_view w = held w.written w.row w.inners.items w.leaf

-- the writer has spelled what a call appends, and holds what it holds afterwards
pub record IsReady (old : PlainWriter) (c : WriterCall) (w : Writer) : Type 0 where
  pub bytes : w.record.items ≡ appended old c
  pub is : writer_view w ≡ after old c

-- the writer holds the same, and the tree of its row is planned
pub record IsLaid (old : PlainWriter) (w : Writer) : Type 0 where
  pub is : writer_view w ≡ old
  pub few : length old.row.dir.entries < 2 ^ 32
  pub known : above_nodes w.nodes.items ≤ length w.row.sets.items
  pub tree : spelled w.row.sets.items w.nodes.items ≡ sets_bytes old.row.dir.sets
