use Rattle.std.proofs.Common.{arith}
use Rattle.std.proofs.lemmas.Grind.{common_steps}
use Rattle.record_parts.proofs.lent.scalar_of_kind.Goals as goal

pub returns-in-0-clause-next : goal.returns-in-0-clause-next
returns-in-0-clause-next c = grind (arith, common_steps)

pub returns-in-1-clause-next : goal.returns-in-1-clause-next
returns-in-1-clause-next c = grind (arith, common_steps)

pub returns-in-2-clause-next : goal.returns-in-2-clause-next
returns-in-2-clause-next c = grind (arith, common_steps)

pub returns-in_ok-n-in-3-clause-next : goal.returns-in_ok-n-in-3-clause-next
returns-in_ok-n-in-3-clause-next c = grind (arith, common_steps)

pub returns-in_ok-text-in-5-clause-next : goal.returns-in_ok-text-in-5-clause-next
returns-in_ok-text-in-5-clause-next c = grind (arith, common_steps)

pub returns-in_default-clause-next : goal.returns-in_default-clause-next
returns-in_default-clause-next c = grind (arith, common_steps)
