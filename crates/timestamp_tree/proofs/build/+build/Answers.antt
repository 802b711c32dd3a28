use Rattle.std.proofs.Common.{arith}
use Rattle.std.proofs.lemmas.Grind.{common_steps}
use Rattle.timestamp_tree.proofs.build.+build.Goals as goal

pub returns-clause-tree : goal.returns-clause-tree
returns-clause-tree t c = grind (arith, common_steps)

pub returns-clause-leaves : goal.returns-clause-leaves
returns-clause-leaves t c = grind (arith, common_steps)

pub returns-clause-size : goal.returns-clause-size
returns-clause-size t c = grind (arith, common_steps)
