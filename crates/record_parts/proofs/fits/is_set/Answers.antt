use Rattle.version_set.specs.View.{pairs_of}
use Rattle.record_parts.specs.Sets.{set_test}
use Rattle.record_parts.proofs.fits.is_set.Goals as goal

pub returns-clause-is : goal.returns-clause-is
returns-clause-is c = set_test c.set_fits.result (pairs_of c.args.set.now) c.set_fits.ensures
