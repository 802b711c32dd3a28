use Rattle.std.proofs.Common.{arith}
use Rattle.record_format.proofs.LentParts.{view_found, view_none}
use Rattle.record_format.proofs.lend_records.view.Goals as goal

pub returns-clause-found : goal.returns-clause-found
returns-clause-found c = view_found c.args.bytes.now c.view_record.result (λ i. omega (arith, c.type_inv.bytes i)) c.view_record.ensures

pub returns-clause-none : goal.returns-clause-none
returns-clause-none c = view_none c.args.bytes.now c.view_record.result c.view_record.ensures
