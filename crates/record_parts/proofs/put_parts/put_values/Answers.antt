use Rattle.std.proofs.Common.{arith}
use Rattle.std.proofs.lemmas.Grind.{common_steps}
use Rattle.xa_fields.proofs.Combinators.{growth}
use Rattle.record_parts.proofs.put_parts.put_values.Goals as goal

pub returns-in_err-append_u32-clause-grows : goal.returns-in_err-append_u32-clause-grows
returns-in_err-append_u32-clause-grows c = grind (arith, growth)

pub returns-clause-ok : goal.returns-clause-ok
returns-clause-ok c = grind (arith, common_steps)

pub returns-clause-grows : goal.returns-clause-grows
returns-clause-grows c = grind (arith, growth)
