use Rattle.std.proofs.Common.{arith}
use Rattle.std.proofs.lemmas.Grind.{common_steps}
use Rattle.timestamp_tree.proofs.encode.put_pairs.Goals as goal

pub loop-from-init : goal.loop-from-init
loop-from-init c = grind (arith, common_steps)

pub loop-from-preserved : goal.loop-from-preserved
loop-from-preserved c = grind (arith, common_steps)

pub returns-clause-ok : goal.returns-clause-ok
returns-clause-ok c = grind (arith, common_steps)

pub returns-clause-grows : goal.returns-clause-grows
returns-clause-grows c = grind (arith, common_steps)
