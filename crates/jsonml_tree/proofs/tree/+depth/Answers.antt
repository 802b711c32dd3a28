use Rattle.std.proofs.Common.{arith}
use Rattle.std.proofs.lemmas.Grind.{common_steps}
use Rattle.jsonml_tree.proofs.tree.+depth.Goals as goal

pub deepest-loop-item-init : goal.deepest-loop-item-init
deepest-loop-item-init t c = grind (arith, common_steps)

pub deepest-loop-item-preserved : goal.deepest-loop-item-preserved
deepest-loop-item-preserved t c = grind (arith, common_steps)

pub deepest-returns : goal.deepest-returns
deepest-returns t c = grind (arith, common_steps)
