use Rattle.std.proofs.Common.{arith}
use Rattle.record_format.specs.View.{rec_view}
use Rattle.archive_file.proofs.LaidLaws.{record-is, record-spelled, record-on}
use Rattle.archive_file.proofs.reading.read_record.Goals as goal

pub returns-in-Ok-clause-is : goal.returns-in-Ok-clause-is
returns-in-Ok-clause-is c =
    record-is c.args.bytes.now c.args.at c.in-Ok.next (rec_view c.in-Ok.rec) (λ i. omega (arith, c.type_inv.bytes i)) c.in-Ok.ensures.found

pub returns-in-Ok-clause-further : goal.returns-in-Ok-clause-further
returns-in-Ok-clause-further c =
    record-on c.args.bytes.now c.args.at c.in-Ok.next (rec_view c.in-Ok.rec) (λ i. omega (arith, c.type_inv.bytes i)) c.in-Ok.ensures.found c.in-Ok.ensures.next

pub returns-in-Ok-clause-spelled : goal.returns-in-Ok-clause-spelled
returns-in-Ok-clause-spelled c =
    record-spelled c.args.bytes.now c.args.at c.in-Ok.next (rec_view c.in-Ok.rec) (λ i. omega (arith, c.type_inv.bytes i)) c.in-Ok.ensures.found
