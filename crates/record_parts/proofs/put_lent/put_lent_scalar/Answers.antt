use Rattle.std.proofs.Common.{sym, ◌∙◌}
use Rattle.jsonml_tree.specs.LentAttrs.{lent_scalar_view}
use Rattle.record_parts.specs.Encodable.{scalar_there}
use Rattle.record_parts.specs.ShapeLaws.{scalar_fit}
use Rattle.record_parts.proofs.put_lent.put_lent_scalar.Goals as goal

pub put_scalar-requires : goal.put_scalar-requires
put_scalar-requires c = (let s = lent_scalar_view c.args.scalar in scalar_fit s (scalar_there s (sym c.scalar_fits.ensures ∙ c.if-not-scalar_fits.false)))
