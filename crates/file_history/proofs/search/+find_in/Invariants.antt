use Rattle.std.proofs.Common.{◌-◌}
use Rattle.file_history.proofs.search.+find_in.Given as goal

-- so many children are left
abbrev pub decreases-find_in : goal.decreases-find_in
decreases-find_in g l = l.part.high - l.part.low
