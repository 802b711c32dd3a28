use Rattle.std.proofs.Common.{arith}
use Rattle.std.proofs.lemmas.Grind.{common_steps}
use Rattle.xa_fields.proofs.Combinators.{growth, grows_to}
use Rattle.record_parts.proofs.Puts.{grows_with}
use Rattle.record_parts.proofs.put_values.put_scalar.Goals as goal

pub returns-in_err-append_u8-in-Text-clause-grows : goal.returns-in_err-append_u8-in-Text-clause-grows
returns-in_err-append_u8-in-Text-clause-grows c = grind (arith, growth)

pub returns-in-Null-clause-grows : goal.returns-in-Null-clause-grows
returns-in-Null-clause-grows c = grind (arith, growth)

pub returns-in-Bool-true-clause-grows : goal.returns-in-Bool-true-clause-grows
returns-in-Bool-true-clause-grows c = grind (arith, growth)

pub returns-in-Bool-false-clause-grows : goal.returns-in-Bool-false-clause-grows
returns-in-Bool-false-clause-grows c = grind (arith, growth)

pub returns-in-Whole-clause-grows : goal.returns-in-Whole-clause-grows
returns-in-Whole-clause-grows c = grind (arith, growth)

pub returns-in_ok-append_u8-in-Text-clause-ok : goal.returns-in_ok-append_u8-in-Text-clause-ok
returns-in_ok-append_u8-in-Text-clause-ok c = grind (arith, common_steps)

pub returns-in_ok-append_u8-in-Text-clause-grows : goal.returns-in_ok-append_u8-in-Text-clause-grows
returns-in_ok-append_u8-in-Text-clause-grows c = grows_with c.append_text.result _ _ _ _ (grows_to _ _ _ c.in_ok-append_u8-in-Text.ensures.ok) c.append_text.ensures.ok c.append_text.ensures.err
