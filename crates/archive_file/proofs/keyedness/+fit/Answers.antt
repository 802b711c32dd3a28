use Rattle.std.proofs.lemmas.Grind.{common_steps}
use Rattle.std.proofs.Common.{arith}
use Rattle.archive_file.proofs.keyedness.+fit.Goals as goal

pub nodes_fit-loop-node-init : goal.nodes_fit-loop-node-init
nodes_fit-loop-node-init t c = grind (arith, common_steps)

pub nodes_fit-loop-node-preserved : goal.nodes_fit-loop-node-preserved
nodes_fit-loop-node-preserved t c = grind (arith, common_steps)

pub nodes_fit-returns : goal.nodes_fit-returns
nodes_fit-returns t c = grind (arith, common_steps)
