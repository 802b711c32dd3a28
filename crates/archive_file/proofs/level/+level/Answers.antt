use Rattle.std.proofs.Common.{arith}
use Rattle.std.proofs.lemmas.Grind.{common_steps}
use Rattle.archive_file.proofs.level.+level.Goals as goal

pub are_shallow-loop-node-init : goal.are_shallow-loop-node-init
are_shallow-loop-node-init t c = grind (arith, common_steps)

pub are_shallow-returns-then-not-is_shallow : goal.are_shallow-returns-then-not-is_shallow
are_shallow-returns-then-not-is_shallow t c = grind (arith, common_steps)

pub are_shallow-loop-node-preserved : goal.are_shallow-loop-node-preserved
are_shallow-loop-node-preserved t c = grind (arith, common_steps)

pub are_shallow-returns : goal.are_shallow-returns
are_shallow-returns t c = grind (arith, common_steps)
