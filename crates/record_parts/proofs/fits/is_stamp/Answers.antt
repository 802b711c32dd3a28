use Rattle.archive_tree.specs.View.{stamp_view}
use Rattle.record_parts.specs.Sets.{stamp_test}
use Rattle.record_parts.proofs.fits.is_stamp.Goals as goal

pub returns-clause-is : goal.returns-clause-is
returns-clause-is c = stamp_test c.stamp_fits.result (stamp_view c.args.stamp.now) c.stamp_fits.ensures
