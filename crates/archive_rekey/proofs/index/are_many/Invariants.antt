use Rattle.std.proofs.Common.{◌≤◌}
use Rattle.archive_rekey.proofs.index.are_many.Given as goal

abbrev pub invariant-loop-set : goal.invariant-loop-set
invariant-loop-set l = l.stored ≤ l.set-index
