use Rattle.std.proofs.Common.{rules, refl, arith}
use Rattle.std.proofs.lemmas.Grind.{common_steps}
use Rattle.xa_fields.proofs.Combinators.{grows_itself, grows_on}
use Rattle.keyed_tree.specs.View.{key_view}
use Rattle.record_parts.specs.Shapes.{FitsValue}
use Rattle.record_parts.specs.Spelling.{value_bytes}
use Rattle.record_parts.proofs.Puts.{next_is, next_put}
use Rattle.record_parts.proofs.put_parts.put_each_value.Goals as goal

pub loop-value-init : goal.loop-value-init
loop-value-init c = record { fits = c.requires; wrote = refl; grows = grows_itself c.args.out.now.items }

pub put_value-requires : goal.put_value-requires
put_value-requires c = (next_is FitsValue key_view c.args.values.now c.loop-value.value-index c.value-item.result c.loop-value-test.true c.value-item.is c.loop-value.invariant.fits).0

pub returns-in_err-put_value-clause-grows : goal.returns-in_err-put_value-clause-grows
returns-in_err-put_value-clause-grows c = grows_on _ _ _ c.loop-value.invariant.grows c.put_value.ensures.grows

pub loop-value-preserved : goal.loop-value-preserved
loop-value-preserved c =
    record {
      fits = (next_is FitsValue key_view c.args.values.now c.loop-value.value-index c.value-item.result c.loop-value-test.true c.value-item.is c.loop-value.invariant.fits).1;
      wrote = next_put value_bytes key_view c.args.values.now c.loop-value.value-index c.value-item.result _ _ _ c.loop-value-test.true c.value-item.is (search rules) c.loop-value.invariant.wrote;
      grows = grows_on _ _ _ c.loop-value.invariant.grows c.put_value.ensures.grows;
    }

pub returns-clause-ok : goal.returns-clause-ok
returns-clause-ok c = grind (arith, common_steps)

pub returns-clause-grows : goal.returns-clause-grows
returns-clause-grows c = c.loop-value.invariant.grows
