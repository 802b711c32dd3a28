use Rattle.std.proofs.Common.{arith}
use Rattle.std.proofs.lemmas.Grind.{common_steps}
use Rattle.archive_file.proofs.lead.attribute.Goals as goal

pub loop-attr-init : goal.loop-attr-init
loop-attr-init c = grind (arith, common_steps)

pub returns-then-eq : goal.returns-then-eq
returns-then-eq c = grind (arith, common_steps)

pub loop-attr-preserved : goal.loop-attr-preserved
loop-attr-preserved c = grind (arith, common_steps)

pub returns : goal.returns
returns c = grind (arith, common_steps)
