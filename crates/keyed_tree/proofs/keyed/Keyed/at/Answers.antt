use Rattle.std.proofs.Common.{arith}
use Rattle.std.proofs.lemmas.Grind.{common_steps}
use Rattle.keyed_tree.specs.View.{keyed_view}
use Rattle.keyed_tree.proofs.KidsKeep.{ordered_kids}
use Rattle.keyed_tree.proofs.keyed.Keyed.at.Goals as goal

pub find-requires : goal.find-requires
find-requires c = ordered_kids (keyed_view c.loop-label.node.now) c.loop-label.invariant.ordered

pub loop-label-init : goal.loop-label-init
loop-label-init c = grind (arith, common_steps)

pub loop-label-preserved : goal.loop-label-preserved
loop-label-preserved c = grind (arith, common_steps)

pub returns : goal.returns
returns c = grind (arith, common_steps)
