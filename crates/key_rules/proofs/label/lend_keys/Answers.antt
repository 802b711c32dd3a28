use Rattle.std.proofs.Common.{arith}
use Rattle.std.proofs.lemmas.Grind.{common_steps}
use Rattle.key_rules.proofs.label.lend_keys.Goals as goal

pub returns-in-len1-clause-keys : goal.returns-in-len1-clause-keys
returns-in-len1-clause-keys c = grind (arith, common_steps)

pub returns-in-len1-clause-fault : goal.returns-in-len1-clause-fault
returns-in-len1-clause-fault c = grind (arith, common_steps)

pub loop-path-init : goal.loop-path-init
loop-path-init c = grind (arith, common_steps)

pub loop-path-preserved : goal.loop-path-preserved
loop-path-preserved c = grind (arith, common_steps)

pub returns-clause-keys : goal.returns-clause-keys
returns-clause-keys c = grind (arith, common_steps)

pub returns-clause-fault : goal.returns-clause-fault
returns-clause-fault c = grind (arith, common_steps)
