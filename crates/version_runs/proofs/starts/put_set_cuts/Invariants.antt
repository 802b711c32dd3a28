use Rattle.std.proofs.Common.{◌≡◌, ◌++◌, drop}
use Rattle.std.specs.List.{flat_map}
use Rattle.version_runs.specs.Runs.{pair_cuts, upto}
use Rattle.version_runs.proofs.starts.put_set_cuts.Given as goal

-- what is done and what is left are all
abbrev pub invariant-loop-pair : goal.invariant-loop-pair
invariant-loop-pair l = l.cuts.items ++ upto l.last (flat_map pair_cuts (drop l.pair-index l.pair-items)) ≡ l.fn.cuts.items ++ upto l.last (flat_map pair_cuts l.pair-items)
