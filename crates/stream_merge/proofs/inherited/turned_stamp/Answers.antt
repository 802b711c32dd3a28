use Rattle.std.proofs.Common.{arith}
use Rattle.std.proofs.lemmas.Grind.{common_steps}
use Rattle.stream_merge.proofs.inherited.turned_stamp.Goals as goal

pub returns-clause-stamp : goal.returns-clause-stamp
returns-clause-stamp c = grind (arith, common_steps)

pub returns-clause-no_shorter : goal.returns-clause-no_shorter
returns-clause-no_shorter c = grind (arith, common_steps)

pub returns-clause-inside : goal.returns-clause-inside
returns-clause-inside c = grind (arith, common_steps)

pub returns-clause-damage : goal.returns-clause-damage
returns-clause-damage c = grind (arith, common_steps)
