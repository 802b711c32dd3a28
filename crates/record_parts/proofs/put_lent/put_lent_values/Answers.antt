use Rattle.std.proofs.Common.{map, refl, arith}
use Rattle.std.proofs.lemmas.Grind.{common_steps}
use Rattle.std.specs.List.{flat_map}
use Rattle.keyed_tree.specs.LentView.{lent_val_view}
use Rattle.record_parts.specs.Checks.{value_fits, values_fit}
use Rattle.record_parts.specs.Spelling.{value_bytes}
use Rattle.record_parts.proofs.Puts.{next_put}
use Rattle.record_parts.proofs.Spelled.{refused, all_refused, all_go_on}
use Rattle.record_parts.proofs.put_lent.put_lent_values.Goals as goal

pub loop-value-init : goal.loop-value-init
loop-value-init c = record { fits = refl; wrote = refl }

pub returns-in_err-put_lent_value : goal.returns-in_err-put_lent_value
returns-in_err-put_lent_value c =
    refused (value_fits (lent_val_view c.value-item.result)) (values_fit (map lent_val_view c.args.values.now)) c.loop-value.out.items c.put_lent_value.new.out.items (value_bytes (lent_val_view c.value-item.result)) c.args.out.now.items _ (flat_map value_bytes (map lent_val_view c.args.values.now)) c.from_residual.result c.in_err-put_lent_value.field-0.0 c.from_residual.ensures.1
    (all_refused value_fits values_fit lent_val_view c.args.values.now c.loop-value.value-index c.value-item.result _ (λ b bs. refl) c.loop-value-test.true c.value-item.is c.loop-value.invariant.fits) c.in_err-put_lent_value.ensures

pub loop-value-preserved : goal.loop-value-preserved
loop-value-preserved c =
    record {
      fits = all_go_on value_fits values_fit lent_val_view c.args.values.now c.loop-value.value-index c.value-item.result _ (λ b bs. refl) c.loop-value-test.true c.value-item.is c.loop-value.invariant.fits c.in_ok-put_lent_value.ensures.0;
      wrote = next_put value_bytes lent_val_view c.args.values.now c.loop-value.value-index c.value-item.result _ _ _ c.loop-value-test.true c.value-item.is c.in_ok-put_lent_value.ensures.1 c.loop-value.invariant.wrote;
    }

pub returns : goal.returns
returns c = (grind (arith, common_steps), grind (arith, common_steps))
