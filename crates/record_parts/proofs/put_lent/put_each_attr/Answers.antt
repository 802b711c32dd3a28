use Rattle.std.proofs.Common.{◌≡◌, ◌&&◌, Bool, true, ◌++◌, map, refl, sym, ◌∙◌, arith}
use Rattle.std.proofs.lemmas.Grind.{common_steps}
use Rattle.std.specs.List.{flat_map}
use Rattle.jsonml_tree.specs.Data.{PlainAttr}
use Rattle.jsonml_tree.specs.LentAttrs.{lent_attr_view, lent_scalar_view}
use Rattle.record_parts.specs.Checks.{each_attr_fits, scalar_fits, text_fits}
use Rattle.record_parts.specs.Spelling.{attr_bytes}
use Rattle.record_parts.proofs.Puts.{next_put}
use Rattle.record_parts.proofs.Spelled.{refused, all_refused, all_go_on}
use Rattle.record_parts.proofs.put_lent.put_each_attr.Goals as goal

abbrev fit : PlainAttr → Bool
fit a = text_fits a.name && scalar_fits a.value

pub loop-attr-init : goal.loop-attr-init
loop-attr-init c = record { fits = refl; wrote = refl }

pub returns-in_err-put_attr : goal.returns-in_err-put_attr
returns-in_err-put_attr c =
    let a = lent_attr_view c.attr-item.result in
    let same : (text_fits c.name.result.now && scalar_fits (lent_scalar_view c.value.result)) ≡ fit a = (λ i. text_fits (c.name.ensures i) && scalar_fits (c.value.ensures i)) in
    refused (text_fits c.name.result.now && scalar_fits (lent_scalar_view c.value.result)) (each_attr_fits (map lent_attr_view c.args.attrs.now)) c.loop-attr.out.items c.put_attr.new.out.items (attr_bytes (record { name = c.name.result.now; value = lent_scalar_view c.value.result })) c.args.out.now.items _ (flat_map attr_bytes (map lent_attr_view c.args.attrs.now)) c.from_residual.result c.in_err-put_attr.field-0.0 c.from_residual.ensures.1
    (λ wrong. all_refused fit each_attr_fits lent_attr_view c.args.attrs.now c.loop-attr.attr-index c.attr-item.result _ (λ b bs. refl) c.loop-attr-test.true c.attr-item.is c.loop-attr.invariant.fits (sym same ∙ wrong)) c.in_err-put_attr.ensures

pub loop-attr-preserved : goal.loop-attr-preserved
loop-attr-preserved c =
    let a = lent_attr_view c.attr-item.result in
    let same : (text_fits c.name.result.now && scalar_fits (lent_scalar_view c.value.result)) ≡ fit a = (λ i. text_fits (c.name.ensures i) && scalar_fits (c.value.ensures i)) in
    let bytes : c.put_attr.new.out.items ≡ c.loop-attr.out.items ++ attr_bytes a = c.in_ok-put_attr.ensures.1 ∙ (λ i. c.loop-attr.out.items ++ attr_bytes (record { name = c.name.ensures i; value = c.value.ensures i })) in
    record {
      fits = all_go_on fit each_attr_fits lent_attr_view c.args.attrs.now c.loop-attr.attr-index c.attr-item.result _ (λ b bs. refl) c.loop-attr-test.true c.attr-item.is c.loop-attr.invariant.fits (sym same ∙ c.in_ok-put_attr.ensures.0);
      wrote = next_put attr_bytes lent_attr_view c.args.attrs.now c.loop-attr.attr-index c.attr-item.result _ _ _ c.loop-attr-test.true c.attr-item.is bytes c.loop-attr.invariant.wrote;
    }

pub returns : goal.returns
returns c = (grind (arith, common_steps), grind (arith, common_steps))
