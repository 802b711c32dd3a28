use Rattle.std.proofs.Common.{arith}
use Rattle.std.proofs.lemmas.Grind.{common_steps}
use Rattle.stream_merge.proofs.inherited.turned_node.Goals as goal

pub returns-then-not-is_stored-clause-stamp : goal.returns-then-not-is_stored-clause-stamp
returns-then-not-is_stored-clause-stamp c = grind (arith, common_steps)

pub returns-then-not-is_stored-clause-own : goal.returns-then-not-is_stored-clause-own
returns-then-not-is_stored-clause-own c = grind (arith, common_steps)

pub returns-then-not-is_stored-clause-inside : goal.returns-then-not-is_stored-clause-inside
returns-then-not-is_stored-clause-inside c = grind (arith, common_steps)

pub returns-then-not-is_stored-clause-damage : goal.returns-then-not-is_stored-clause-damage
returns-then-not-is_stored-clause-damage c = grind (arith, common_steps)

pub returns-clause-stamp : goal.returns-clause-stamp
returns-clause-stamp c = grind (arith, common_steps)

pub returns-clause-own : goal.returns-clause-own
returns-clause-own c = grind (arith, common_steps)

pub returns-clause-no_shorter : goal.returns-clause-no_shorter
returns-clause-no_shorter c = grind (arith, common_steps)

pub returns-clause-inside : goal.returns-clause-inside
returns-clause-inside c = grind (arith, common_steps)

pub returns-clause-damage : goal.returns-clause-damage
returns-clause-damage c = grind (arith, common_steps)
