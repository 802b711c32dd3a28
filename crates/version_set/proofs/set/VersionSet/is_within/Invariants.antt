use Rattle.std.proofs.Common.{◌↔◌, drop}
use Rattle.version_set.specs.View.{pairs_of}
use Rattle.version_set.proofs.Inside.{AllIn}
use Rattle.version_set.proofs.set.VersionSet.is_within.Given as goal

-- what is left decides
abbrev pub invariant-loop-from : goal.invariant-loop-from
invariant-loop-from l = AllIn (drop l.from-index (pairs_of l.self)) (pairs_of l.other) ↔ AllIn (pairs_of l.self) (pairs_of l.other)
