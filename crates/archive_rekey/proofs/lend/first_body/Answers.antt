use Rattle.std.proofs.Common.{arith}
use Rattle.std.proofs.lemmas.Grind.{common_steps}
use Rattle.archive_rekey.proofs.lend.first_body.Goals as goal

pub loop-alt-init : goal.loop-alt-init
loop-alt-init c = grind (arith, common_steps)

pub returns-then-has_version : goal.returns-then-has_version
returns-then-has_version c = grind (arith, common_steps)

pub loop-alt-preserved : goal.loop-alt-preserved
loop-alt-preserved c = grind (arith, common_steps)

pub returns : goal.returns
returns c = grind (arith, common_steps)
