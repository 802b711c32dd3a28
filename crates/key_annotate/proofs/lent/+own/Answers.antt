use Rattle.std.proofs.Common.{arith}
use Rattle.std.proofs.lemmas.Grind.{common_steps}
use Rattle.key_annotate.proofs.lent.+own.Goals as goal

pub own_kids-loop-kid-init : goal.own_kids-loop-kid-init
own_kids-loop-kid-init t c = grind (arith, common_steps)

pub own_kids-loop-kid-preserved : goal.own_kids-loop-kid-preserved
own_kids-loop-kid-preserved t c = grind (arith, common_steps)

pub own_kids-returns : goal.own_kids-returns
own_kids-returns t c = grind (arith, common_steps)
