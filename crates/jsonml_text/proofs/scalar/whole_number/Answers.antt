use Rattle.std.proofs.Common.{arith}
use Rattle.std.proofs.lemmas.Grind.{common_steps}
use Rattle.jsonml_text.proofs.scalar.whole_number.Goals as goal

pub returns-in-None-clause-in_range : goal.returns-in-None-clause-in_range
returns-in-None-clause-in_range c = grind (arith, common_steps)

pub returns-in-None-clause-value : goal.returns-in-None-clause-value
returns-in-None-clause-value c = grind (arith, common_steps)

pub returns-in-Some-as_u64-clause-in_range : goal.returns-in-Some-as_u64-clause-in_range
returns-in-Some-as_u64-clause-in_range c = grind (arith, common_steps)

pub returns-in-Some-as_u64-clause-value : goal.returns-in-Some-as_u64-clause-value
returns-in-Some-as_u64-clause-value c = grind (arith, common_steps)

pub returns-in-Some-clause-in_range : goal.returns-in-Some-clause-in_range
returns-in-Some-clause-in_range c = grind (arith, common_steps)

pub returns-in-Some-clause-value : goal.returns-in-Some-clause-value
returns-in-Some-clause-value c = grind (arith, common_steps)
