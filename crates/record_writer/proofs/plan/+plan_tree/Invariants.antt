use Rattle.std.proofs.Common.{length}
use Rattle.record_writer.proofs.plan.+plan_tree.Given as goal

abbrev pub decreases-plan_tree : goal.decreases-plan_tree
decreases-plan_tree l = length l.places.now
