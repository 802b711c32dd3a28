use Rattle.std.proofs.Common.{arith}
use Rattle.std.proofs.lemmas.Grind.{common_steps}
use Rattle.xa_fields.proofs.Combinators.{growth}
use Rattle.record_parts.proofs.put_parts.put_stamp.Goals as goal

pub returns-in_err-append_u8-in-Some-clause-grows : goal.returns-in_err-append_u8-in-Some-clause-grows
returns-in_err-append_u8-in-Some-clause-grows c = grind (arith, growth)

pub returns-in-None-clause-grows : goal.returns-in-None-clause-grows
returns-in-None-clause-grows c = grind (arith, growth)

pub returns-in_ok-append_u8-in-Some-clause-ok : goal.returns-in_ok-append_u8-in-Some-clause-ok
returns-in_ok-append_u8-in-Some-clause-ok c = grind (arith, common_steps)

pub returns-in_ok-append_u8-in-Some-clause-grows : goal.returns-in_ok-append_u8-in-Some-clause-grows
returns-in_ok-append_u8-in-Some-clause-grows c = grind (arith, growth)
