use Rattle.std.proofs.Common.{drop, ◌↔◌}
use Rattle.version_set.specs.Pairs.{IsFrom}
use Rattle.version_set.proofs.pairs.is_canonical.Given as goal

-- the rest decides
abbrev pub invariant-loop-from : goal.invariant-loop-from
invariant-loop-from l = IsFrom l.low (drop l.from-index l.pairs) ↔ IsFrom 1 l.pairs
