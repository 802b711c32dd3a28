use Rattle.std.proofs.Common.{length}
use Rattle.timestamp_tree.proofs.build.+build.Given as goal

abbrev pub decreases-build : goal.decreases-build
decreases-build l = length l.sets.now
