use Rattle.std.proofs.Common.{arith}
use Rattle.std.proofs.lemmas.Grind.{common_steps}
use Rattle.record_cursor.proofs.fill.fill_part.Goals as goal

pub returns-in-Ok-clause-reads : goal.returns-in-Ok-clause-reads
returns-in-Ok-clause-reads g c = grind (arith, common_steps)

pub returns-in-Ok-clause-numbers : goal.returns-in-Ok-clause-numbers
returns-in-Ok-clause-numbers g c = grind (arith, common_steps)

pub returns-in-Ok-clause-pulls : goal.returns-in-Ok-clause-pulls
returns-in-Ok-clause-pulls g c = grind (arith, common_steps)

pub returns-in-Ok-clause-told : goal.returns-in-Ok-clause-told
returns-in-Ok-clause-told g c = grind (arith, common_steps)

pub returns-in-Ok-clause-damage : goal.returns-in-Ok-clause-damage
returns-in-Ok-clause-damage g c = grind (arith, common_steps)

pub returns-in-Ok-2-clause-reads : goal.returns-in-Ok-2-clause-reads
returns-in-Ok-2-clause-reads g c = grind (arith, common_steps)

pub returns-in-Ok-2-clause-numbers : goal.returns-in-Ok-2-clause-numbers
returns-in-Ok-2-clause-numbers g c = grind (arith, common_steps)

pub returns-in-Ok-2-clause-pulls : goal.returns-in-Ok-2-clause-pulls
returns-in-Ok-2-clause-pulls g c = grind (arith, common_steps)

pub returns-in-Ok-2-clause-told : goal.returns-in-Ok-2-clause-told
returns-in-Ok-2-clause-told g c = grind (arith, common_steps)

pub returns-in-Ok-2-clause-damage : goal.returns-in-Ok-2-clause-damage
returns-in-Ok-2-clause-damage g c = grind (arith, common_steps)

pub returns-in-Err-clause-reads : goal.returns-in-Err-clause-reads
returns-in-Err-clause-reads g c = grind (arith, common_steps)

pub returns-in-Err-clause-numbers : goal.returns-in-Err-clause-numbers
returns-in-Err-clause-numbers g c = grind (arith, common_steps)

pub returns-in-Err-clause-pulls : goal.returns-in-Err-clause-pulls
returns-in-Err-clause-pulls g c = grind (arith, common_steps)

pub returns-in-Err-clause-told : goal.returns-in-Err-clause-told
returns-in-Err-clause-told g c = grind (arith, common_steps)

pub returns-in-Err-clause-damage : goal.returns-in-Err-clause-damage
returns-in-Err-clause-damage g c = grind (arith, common_steps)
