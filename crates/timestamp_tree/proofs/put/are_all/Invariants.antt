use Rattle.std.proofs.Common.{◌≡◌, Bor, map, take, replicate}
use Rattle.version_set.specs.View.{pairs_of}
use Rattle.version_set.specs.declared.set.VersionSet.{VersionSet}
use Rattle.timestamp_tree.proofs.put.are_all.Given as goal

-- the sets so far are this one
abbrev pub invariant-loop-other : goal.invariant-loop-other
invariant-loop-other l = map (λ (s : Bor VersionSet). pairs_of s.now) (take l.other-index l.sets) ≡ replicate l.other-index (pairs_of l.set)
