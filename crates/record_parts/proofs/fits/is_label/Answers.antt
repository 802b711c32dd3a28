use Rattle.keyed_tree.specs.View.{label_view}
use Rattle.record_parts.specs.Encodable.{label_test}
use Rattle.record_parts.proofs.fits.is_label.Goals as goal

pub returns-clause-is : goal.returns-clause-is
returns-clause-is c = label_test c.parts_fit.result (label_view c.args.label.now) c.parts_fit.ensures
