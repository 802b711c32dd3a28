use Rattle.std.proofs.Common.{ap, arith, subst, sym}
use Rattle.std.proofs.lemmas.Grind.{common_steps}
use Rattle.xa_fields.proofs.Combinators.{growth}
use Rattle.keyed_tree.specs.View.{key_view}
use Rattle.record_parts.specs.Shapes.{FitsScalar, FitsValue}
use Rattle.record_parts.proofs.put_values.put_value.Goals as goal

pub returns-in_err-append_u8-in-Scalar-clause-grows : goal.returns-in_err-append_u8-in-Scalar-clause-grows
returns-in_err-append_u8-in-Scalar-clause-grows c = grind (arith, growth)

pub returns-in_err-append_u8-in-Content-clause-grows : goal.returns-in_err-append_u8-in-Content-clause-grows
returns-in_err-append_u8-in-Content-clause-grows c = grind (arith, growth)

pub returns-in_ok-append_u8-in-Scalar-clause-ok : goal.returns-in_ok-append_u8-in-Scalar-clause-ok
returns-in_ok-append_u8-in-Scalar-clause-ok c = grind (arith, common_steps)

pub returns-in_ok-append_u8-in-Scalar-clause-grows : goal.returns-in_ok-append_u8-in-Scalar-clause-grows
returns-in_ok-append_u8-in-Scalar-clause-grows c = grind (arith, growth)

pub returns-in_ok-append_u8-in-Content-clause-ok : goal.returns-in_ok-append_u8-in-Content-clause-ok
returns-in_ok-append_u8-in-Content-clause-ok c = grind (arith, common_steps)

pub returns-in_ok-append_u8-in-Content-clause-grows : goal.returns-in_ok-append_u8-in-Content-clause-grows
returns-in_ok-append_u8-in-Content-clause-grows c = grind (arith, growth)

pub put_scalar-requires : goal.put_scalar-requires
put_scalar-requires c = subst FitsScalar (sym c.lend.ensures) (subst FitsValue (ap key_view c.in-Scalar.is) c.requires)
