use Rattle.std.proofs.Common.{arith}
use Rattle.std.proofs.lemmas.Grind.{common_steps}
use Rattle.xa_fields.proofs.Combinators.{growth, grows_to}
use Rattle.record_parts.proofs.Puts.{grows_with}
use Rattle.record_parts.proofs.put_parts.put_name.Goals as goal

pub returns-in_err-append_u8-in-Attr-clause-grows : goal.returns-in_err-append_u8-in-Attr-clause-grows
returns-in_err-append_u8-in-Attr-clause-grows c = grind (arith, growth)

pub returns-in_err-append_u8-in-Tag-clause-grows : goal.returns-in_err-append_u8-in-Tag-clause-grows
returns-in_err-append_u8-in-Tag-clause-grows c = grind (arith, growth)

pub returns-in_ok-append_u8-in-Attr-clause-ok : goal.returns-in_ok-append_u8-in-Attr-clause-ok
returns-in_ok-append_u8-in-Attr-clause-ok c = grind (arith, common_steps)

pub returns-in_ok-append_u8-in-Attr-clause-grows : goal.returns-in_ok-append_u8-in-Attr-clause-grows
returns-in_ok-append_u8-in-Attr-clause-grows c = grows_with c.append_text.result _ _ _ _ (grows_to _ _ _ c.in_ok-append_u8-in-Attr.ensures.ok) c.append_text.ensures.ok c.append_text.ensures.err

pub returns-in_ok-append_u8-in-Tag-clause-ok : goal.returns-in_ok-append_u8-in-Tag-clause-ok
returns-in_ok-append_u8-in-Tag-clause-ok c = grind (arith, common_steps)

pub returns-in_ok-append_u8-in-Tag-clause-grows : goal.returns-in_ok-append_u8-in-Tag-clause-grows
returns-in_ok-append_u8-in-Tag-clause-grows c = grows_with c.append_text-in-Tag.result _ _ _ _ (grows_to _ _ _ c.in_ok-append_u8-in-Tag.ensures.ok) c.append_text-in-Tag.ensures.ok c.append_text-in-Tag.ensures.err
