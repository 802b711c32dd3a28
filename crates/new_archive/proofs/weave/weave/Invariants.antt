use Rattle.std.proofs.Common.{◌≡◌, ◌++◌, length}
use Rattle.std.specs.Vec.Iter.{into_iter_items}
use Rattle.new_archive.specs.Woven.{woven}
use Rattle.new_archive.proofs.weave.weave.Given as goal

-- what is done, and what is left
abbrev pub invariant-loop-place : goal.invariant-loop-place
invariant-loop-place l = l.row.items ++ woven l.at (into_iter_items l.rest) (into_iter_items l.fresh) ≡ l.fn.row.items ++ woven l.fn.at l.fn.tail.items l.fn.fresh.items

abbrev pub decreases-loop-place : goal.decreases-loop-place
decreases-loop-place l = length (into_iter_items l.fresh)
