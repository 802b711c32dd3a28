use Rattle.std.proofs.Common.{rules, refl, arith}
use Rattle.std.proofs.lemmas.Grind.{common_steps}
use Rattle.xa_fields.proofs.Combinators.{grows_itself, grows_on}
use Rattle.jsonml_tree.specs.View.{attr_view}
use Rattle.record_parts.specs.Shapes.{FitsAttr}
use Rattle.record_parts.specs.Spelling.{attr_bytes}
use Rattle.record_parts.proofs.Puts.{next_is, next_put}
use Rattle.record_parts.proofs.put_values.put_each_attr.Goals as goal

pub loop-attr-init : goal.loop-attr-init
loop-attr-init c = record { fits = c.requires; wrote = refl; grows = grows_itself c.args.out.now.items }

pub put_attr-requires : goal.put_attr-requires
put_attr-requires c = (next_is FitsAttr attr_view c.args.attrs.now c.loop-attr.attr-index c.attr-item.result c.loop-attr-test.true c.attr-item.is c.loop-attr.invariant.fits).0

pub returns-in_err-put_attr-clause-grows : goal.returns-in_err-put_attr-clause-grows
returns-in_err-put_attr-clause-grows c = grows_on _ _ _ c.loop-attr.invariant.grows c.put_attr.ensures.grows

pub loop-attr-preserved : goal.loop-attr-preserved
loop-attr-preserved c =
    record {
      fits = (next_is FitsAttr attr_view c.args.attrs.now c.loop-attr.attr-index c.attr-item.result c.loop-attr-test.true c.attr-item.is c.loop-attr.invariant.fits).1;
      wrote = next_put attr_bytes attr_view c.args.attrs.now c.loop-attr.attr-index c.attr-item.result _ _ _ c.loop-attr-test.true c.attr-item.is (search rules) c.loop-attr.invariant.wrote;
      grows = grows_on _ _ _ c.loop-attr.invariant.grows c.put_attr.ensures.grows;
    }

pub returns-clause-ok : goal.returns-clause-ok
returns-clause-ok c = grind (arith, common_steps)

pub returns-clause-grows : goal.returns-clause-grows
returns-clause-grows c = c.loop-attr.invariant.grows
