use Rattle.std.proofs.Common.{◌≡◌, ◌++◌, drop}
use Rattle.archive_tree.specs.View.{nodes_view}
use Rattle.version_runs.specs.Runs.{row_cuts, upto}
use Rattle.version_runs.proofs.starts.+cuts.Given as goal

-- what is done and what is left are all
abbrev pub invariant-put_row_cuts-loop-node : goal.invariant-put_row_cuts-loop-node
invariant-put_row_cuts-loop-node l = l.cuts.items ++ upto l.last (row_cuts (nodes_view (drop l.node-index l.nodes))) ≡ l.fn.cuts.items ++ upto l.last (row_cuts (nodes_view l.nodes))
