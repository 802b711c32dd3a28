use Rattle.std.proofs.Common.{arith}
use Rattle.std.proofs.lemmas.Grind.{common_steps}
use Rattle.xa_fields.proofs.Combinators.{growth, grows_to}
use Rattle.record_parts.proofs.Puts.{grows_with}
use Rattle.record_parts.proofs.put_values.put_whole.Goals as goal

pub returns-in_err-append_u8-clause-grows : goal.returns-in_err-append_u8-clause-grows
returns-in_err-append_u8-clause-grows c = grind (arith, growth)

pub returns-in_err-append_u8-2-clause-grows : goal.returns-in_err-append_u8-2-clause-grows
returns-in_err-append_u8-2-clause-grows c = grind (arith, growth)

pub returns-in_ok-append_u8-clause-ok : goal.returns-in_ok-append_u8-clause-ok
returns-in_ok-append_u8-clause-ok c = grind (arith, common_steps)

pub returns-in_ok-append_u8-clause-grows : goal.returns-in_ok-append_u8-clause-grows
returns-in_ok-append_u8-clause-grows c = grows_with c.put_low.result _ _ _ _ (grows_to _ _ _ c.in_ok-append_u8.ensures.ok) c.put_low.ensures.ok c.put_low.ensures.err

pub returns-in_ok-append_u8-2-clause-ok : goal.returns-in_ok-append_u8-2-clause-ok
returns-in_ok-append_u8-2-clause-ok c = grind (arith, common_steps)

pub returns-in_ok-append_u8-2-clause-grows : goal.returns-in_ok-append_u8-2-clause-grows
returns-in_ok-append_u8-2-clause-grows c = grows_with c.put_low-else-n-ge0.result _ _ _ _ (grows_to _ _ _ c.in_ok-append_u8-2.ensures.ok) c.put_low-else-n-ge0.ensures.ok c.put_low-else-n-ge0.ensures.err
