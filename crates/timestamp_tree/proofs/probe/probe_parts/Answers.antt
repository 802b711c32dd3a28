use Rattle.std.proofs.Common.{arith}
use Rattle.std.proofs.lemmas.Grind.{common_steps}
use Rattle.timestamp_tree.proofs.probe.probe_parts.Goals as goal

pub returns-then-count-le-FEW-clause-reads : goal.returns-then-count-le-FEW-clause-reads
returns-then-count-le-FEW-clause-reads g c = grind (arith, common_steps)

pub returns-then-count-le-FEW-clause-size : goal.returns-then-count-le-FEW-clause-size
returns-then-count-le-FEW-clause-size g c = grind (arith, common_steps)

pub returns-then-count-le-FEW-clause-numbers : goal.returns-then-count-le-FEW-clause-numbers
returns-then-count-le-FEW-clause-numbers g c = grind (arith, common_steps)

pub returns-then-count-le-FEW-clause-pulls : goal.returns-then-count-le-FEW-clause-pulls
returns-then-count-le-FEW-clause-pulls g c = grind (arith, common_steps)

pub returns-then-count-le-FEW-clause-told : goal.returns-then-count-le-FEW-clause-told
returns-then-count-le-FEW-clause-told g c = grind (arith, common_steps)

pub returns-then-is_err-clause-reads : goal.returns-then-is_err-clause-reads
returns-then-is_err-clause-reads g c = grind (arith, common_steps)

pub returns-then-is_err-clause-size : goal.returns-then-is_err-clause-size
returns-then-is_err-clause-size g c = grind (arith, common_steps)

pub returns-then-is_err-clause-numbers : goal.returns-then-is_err-clause-numbers
returns-then-is_err-clause-numbers g c = grind (arith, common_steps)

pub returns-then-is_err-clause-pulls : goal.returns-then-is_err-clause-pulls
returns-then-is_err-clause-pulls g c = grind (arith, common_steps)

pub returns-then-is_err-clause-told : goal.returns-then-is_err-clause-told
returns-then-is_err-clause-told g c = grind (arith, common_steps)

pub returns-clause-reads : goal.returns-clause-reads
returns-clause-reads g c = grind (arith, common_steps)

pub returns-clause-size : goal.returns-clause-size
returns-clause-size g c = grind (arith, common_steps)

pub returns-clause-numbers : goal.returns-clause-numbers
returns-clause-numbers g c = grind (arith, common_steps)

pub returns-clause-pulls : goal.returns-clause-pulls
returns-clause-pulls g c = grind (arith, common_steps)

pub returns-clause-told : goal.returns-clause-told
returns-clause-told g c = grind (arith, common_steps)
