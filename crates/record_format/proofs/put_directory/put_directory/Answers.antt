use Rattle.std.proofs.Common.{arith}
use Rattle.xa_fields.proofs.Combinators.{growth}
use Rattle.record_format.proofs.put_directory.put_directory.Goals as goal

pub returns-in_err-put_entries-clause-grows : goal.returns-in_err-put_entries-clause-grows
returns-in_err-put_entries-clause-grows c = grind (arith, growth)

pub returns-clause-grows : goal.returns-clause-grows
returns-clause-grows c = grind (arith, growth)
