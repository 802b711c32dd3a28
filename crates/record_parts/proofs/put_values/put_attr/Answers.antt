use Rattle.std.proofs.Common.{arith, subst, sym}
use Rattle.std.proofs.lemmas.Grind.{common_steps}
use Rattle.xa_fields.proofs.Combinators.{growth}
use Rattle.record_parts.specs.Shapes.{FitsScalar}
use Rattle.record_parts.proofs.put_values.put_attr.Goals as goal

pub returns-in_err-append_text-clause-grows : goal.returns-in_err-append_text-clause-grows
returns-in_err-append_text-clause-grows c = grind (arith, growth)

pub returns-clause-ok : goal.returns-clause-ok
returns-clause-ok c = grind (arith, common_steps)

pub returns-clause-grows : goal.returns-clause-grows
returns-clause-grows c = grind (arith, growth)

pub put_scalar-requires : goal.put_scalar-requires
put_scalar-requires c = subst FitsScalar (sym c.lend.ensures) c.requires.1
