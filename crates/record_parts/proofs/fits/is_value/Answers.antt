use Rattle.keyed_tree.specs.View.{key_view}
use Rattle.record_parts.specs.Encodable.{value_test}
use Rattle.record_parts.proofs.fits.is_value.Goals as goal

pub returns-clause-is : goal.returns-clause-is
returns-clause-is c = value_test c.value_fits.result (key_view c.args.value.now) c.value_fits.ensures
