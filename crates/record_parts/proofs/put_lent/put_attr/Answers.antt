use Rattle.std.proofs.Common.{◌++◌, ◌&&◌}
use Rattle.jsonml_tree.specs.LentAttrs.{lent_scalar_view}
use Rattle.xa_fields.specs.Spelling.{text_bytes}
use Rattle.record_parts.specs.Checks.{scalar_fits, text_fits}
use Rattle.record_parts.specs.Spelling.{scalar_bytes}
use Rattle.record_parts.proofs.Spelled.{and_first, refused, spelled_both}
use Rattle.record_parts.proofs.put_lent.put_attr.Goals as goal

pub returns-in_err-put_short : goal.returns-in_err-put_short
returns-in_err-put_short c =
    let t = text_fits c.args.name.now in
    let s = scalar_fits (lent_scalar_view c.args.value) in
    refused t (t && s) c.args.out.now.items c.put_short.new.out.items (text_bytes c.args.name.now) c.args.out.now.items _ (text_bytes c.args.name.now ++ scalar_bytes (lent_scalar_view c.args.value)) c.from_residual.result c.in_err-put_short.field-0.0 c.from_residual.ensures.1 (and_first t s) c.in_err-put_short.ensures

pub returns : goal.returns
returns c =
    let v = lent_scalar_view c.args.value in
    let first = c.in_ok-put_short.ensures in
    spelled_both (text_fits c.args.name.now) (scalar_fits v) _ _ _ (text_bytes c.args.name.now) (scalar_bytes v) c.put_lent_scalar.result first.0 first.1 c.put_lent_scalar.ensures
