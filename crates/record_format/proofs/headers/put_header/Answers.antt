use Rattle.xa_fields.proofs.Combinators.{growth}
use Rattle.std.proofs.Common.{length, ap, arith}
use Rattle.record_format.proofs.headers.put_header.Goals as goal

pub append_text-requires : goal.append_text-requires
append_text-requires c =
    omega (arith, c.in_ok-text.ensures.short, ap length c.as_str.ensures.value, ap length c.in_ok-text.ensures.text)

pub returns-in_err-append_text-clause-grows : goal.returns-in_err-append_text-clause-grows
returns-in_err-append_text-clause-grows c = grind (arith, growth)
