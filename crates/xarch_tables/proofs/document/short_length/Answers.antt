use Rattle.std.proofs.Common.{arith}
use Rattle.csv_tables.specs.View.{table_view}
use Rattle.xarch_parts.specs.Ends.{IsDefined}
use Rattle.xarch_tables.proofs.DocumentEnds.{long-document, short-document}
use Rattle.xarch_tables.proofs.document.short_length.Goals as goal

pub returns-then-length-clause-told : goal.returns-then-length-clause-told
returns-then-length-clause-told c = short-document c.args.tag.now (table_view c.args.table.now) c.text_length-length.result c.text_length-length.ensures (omega arith)

pub returns-else-length-clause-told : goal.returns-else-length-clause-told
unfolding IsDefined
returns-else-length-clause-told c = long-document c.args.tag.now (table_view c.args.table.now) c.text_length-length.result c.text_length-length.ensures (omega arith)
