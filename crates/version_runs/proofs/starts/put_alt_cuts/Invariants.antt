use Rattle.std.proofs.Common.{◌≡◌, ◌++◌, map, drop}
use Rattle.archive_tree.specs.View.{alt_view}
use Rattle.version_runs.specs.Runs.{alt_cuts, upto}
use Rattle.version_runs.proofs.starts.put_alt_cuts.Given as goal

-- what is done and what is left are all
abbrev pub invariant-loop-alt : goal.invariant-loop-alt
invariant-loop-alt l = l.cuts.items ++ upto l.last (alt_cuts (map alt_view (drop l.alt-index l.alts))) ≡ l.fn.cuts.items ++ upto l.last (alt_cuts (map alt_view l.alts))
