use Rattle.std.proofs.Common.{arith}
use Rattle.std.proofs.lemmas.Grind.{common_steps}
use Rattle.keyed_tree.proofs.keyed.do_ascend.Goals as goal

pub loop-kid-preserved : goal.loop-kid-preserved
loop-kid-preserved c = grind (arith, common_steps)

pub returns : goal.returns
returns c = grind (arith, common_steps)

pub returns-then-not-is_lt : goal.returns-then-not-is_lt
returns-then-not-is_lt c = grind (arith, common_steps)
