use Rattle.std.proofs.Common.{◌+◌, ◌-◌, length, drop}
use Rattle.version_set.proofs.Walks.{Meets}
use Rattle.version_set.proofs.pairs.intersect.Given as goal

abbrev pub invariant-loop-i : goal.invariant-loop-i
invariant-loop-i l = Meets l.ours l.theirs (drop l.i l.ours) (drop l.j l.theirs) l.both.items

abbrev pub decreases-loop-i : goal.decreases-loop-i
decreases-loop-i l = (length l.ours - l.i) + (length l.theirs - l.j)
