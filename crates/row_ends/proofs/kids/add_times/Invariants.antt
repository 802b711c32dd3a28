use Rattle.std.proofs.Common.{◌≡◌, ◌++◌, replicate}
use Rattle.row_ends.proofs.Times.{intervals}
use Rattle.row_ends.proofs.kids.add_times.Given as goal

abbrev pub invariant-loop : goal.invariant-loop
invariant-loop l = l.pairs.items ≡ l.initial.pairs.items ++ intervals (replicate l.counter l.more)
