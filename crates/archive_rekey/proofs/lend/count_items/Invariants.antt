use Rattle.std.proofs.Common.{◌≤◌}
use Rattle.archive_rekey.proofs.lend.count_items.Given as goal

abbrev pub invariant-loop-place : goal.invariant-loop-place
invariant-loop-place l = l.count ≤ l.place-index
