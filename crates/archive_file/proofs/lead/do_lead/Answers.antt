use Rattle.std.proofs.Common.{arith}
use Rattle.std.proofs.lemmas.Grind.{common_steps}
use Rattle.archive_file.proofs.lead.do_lead.Goals as goal

pub loop-path-init : goal.loop-path-init
loop-path-init c = grind (arith, common_steps)

pub returns-in_default : goal.returns-in_default
returns-in_default c = grind (arith, common_steps)

pub returns-then-not-leads : goal.returns-then-not-leads
returns-then-not-leads c = grind (arith, common_steps)

pub loop-path-preserved : goal.loop-path-preserved
loop-path-preserved c = grind (arith, common_steps)

pub returns : goal.returns
returns c = grind (arith, common_steps)
