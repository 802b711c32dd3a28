use Rattle.std.proofs.Common.{◌≡◌, take}
use Rattle.version_set.specs.View.{pairs_of}
use Rattle.version_runs.specs.Spread.{spread_pairs}
use Rattle.version_runs.proofs.spread.spread_set.Given as goal

abbrev pub invariant-loop-pair : goal.invariant-loop-pair
invariant-loop-pair l = pairs_of l.numbers ≡ spread_pairs l.starts l.last (take l.pair-index l.pair-items)
