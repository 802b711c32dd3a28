use Rattle.std.proofs.Common.{arith}
use Rattle.version_set.proofs.Ends.{end_of-get}
use Rattle.version_set.proofs.pairs.next_low.Goals as goal

pub returns-in-len1-up : goal.returns-in-len1-up
returns-in-len1-up c = omega (arith, end_of-get c.args.pairs.now (0, 0) c.in-len1-up.len_at_least)
