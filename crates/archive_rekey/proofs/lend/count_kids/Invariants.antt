use Rattle.std.proofs.Common.{◌≤◌, ◌+◌}
use Rattle.archive_rekey.proofs.lend.count_kids.Given as goal

abbrev pub invariant-loop-node : goal.invariant-loop-node
invariant-loop-node l = l.names + l.tags ≤ l.node-index
