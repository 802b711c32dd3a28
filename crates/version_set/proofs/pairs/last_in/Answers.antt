use Rattle.std.proofs.Common.{arith}
use Rattle.std.proofs.lemmas.Grind.{common_steps}
use Rattle.version_set.proofs.Ends.{last_of-get}
use Rattle.version_set.proofs.pairs.last_in.Goals as goal

pub returns-in-len1-up : goal.returns-in-len1-up
returns-in-len1-up c = last_of-get c.args.pairs.now _ c.in-len1-up.len_at_least

pub returns-in-empty : goal.returns-in-empty
returns-in-empty c = grind (arith, common_steps)
