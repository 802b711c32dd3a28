use Rattle.std.proofs.Common.{arith}
use Rattle.std.proofs.lemmas.Grind.{common_steps}
use Rattle.key_rules.proofs.lent.order_keys_own.Goals as goal

pub loop-a-init : goal.loop-a-init
loop-a-init c = grind (arith, common_steps)

pub returns-in_default : goal.returns-in_default
returns-in_default c = grind (arith, common_steps)

pub returns-in_default-order_own : goal.returns-in_default-order_own
returns-in_default-order_own c = grind (arith, common_steps)

pub loop-a-preserved : goal.loop-a-preserved
loop-a-preserved c = grind (arith, common_steps)

pub returns-then-is_some : goal.returns-then-is_some
returns-then-is_some c = grind (arith, common_steps)

pub returns-else-is_some : goal.returns-else-is_some
returns-else-is_some c = grind (arith, common_steps)
