use Rattle.std.proofs.Common.{length}
use Rattle.test_judge.proofs.rows.+come_below.Given as goal

abbrev pub decreases-come_below : goal.decreases-come_below
decreases-come_below l = length l.way.now
