use Rattle.nested_merge.proofs.Rows.{rows}
use Rattle.std.proofs.Common.{arith}
use Rattle.std.proofs.lemmas.Grind.{common_steps}
use Rattle.nested_merge.proofs.fresh.+fresh.Goals as goal

pub fresh_node-returns-in_ok-only_alt-in-Leaf : goal.fresh_node-returns-in_ok-only_alt-in-Leaf
fresh_node-returns-in_ok-only_alt-in-Leaf t c = grind (arith, rows)

pub fresh_node-returns-in_ok-fresh_nodes-in-Inner : goal.fresh_node-returns-in_ok-fresh_nodes-in-Inner
fresh_node-returns-in_ok-fresh_nodes-in-Inner t c = grind (arith, rows)

pub fresh_nodes-loop-kid-init : goal.fresh_nodes-loop-kid-init
fresh_nodes-loop-kid-init t c = grind (arith, common_steps)

pub fresh_nodes-loop-kid-preserved : goal.fresh_nodes-loop-kid-preserved
fresh_nodes-loop-kid-preserved t c = grind (arith, common_steps)

pub fresh_nodes-returns : goal.fresh_nodes-returns
fresh_nodes-returns t c = grind (arith, common_steps)
