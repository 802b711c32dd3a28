use Rattle.std.proofs.Common.{◌+◌, ◌-◌, length, drop}
use Rattle.version_set.proofs.Walks.{Unites}
use Rattle.version_set.proofs.pairs.put_union.Given as goal

abbrev pub invariant-loop-our : goal.invariant-loop-our
invariant-loop-our l = Unites l.ours l.theirs (drop l.i l.ours) (drop l.j l.theirs) l.all.items

abbrev pub decreases-loop-our : goal.decreases-loop-our
decreases-loop-our l = (length l.ours - l.i) + (length l.theirs - l.j)
