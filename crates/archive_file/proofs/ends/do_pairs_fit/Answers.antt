use Rattle.std.proofs.Common.{arith}
use Rattle.std.proofs.lemmas.Grind.{common_steps}
use Rattle.archive_file.proofs.ends.do_pairs_fit.Goals as goal

pub loop-set-init : goal.loop-set-init
loop-set-init c = grind (arith, common_steps)

pub returns-then-taken-left : goal.returns-then-taken-left
returns-then-taken-left c = grind (arith, common_steps)

pub loop-set-preserved : goal.loop-set-preserved
loop-set-preserved c = grind (arith, common_steps)

pub returns : goal.returns
returns c = grind (arith, common_steps)
