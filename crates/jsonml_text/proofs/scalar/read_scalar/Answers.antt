use Rattle.std.proofs.Common.{arith}
use Rattle.std.proofs.lemmas.Grind.{common_steps}
use Rattle.jsonml_text.proofs.scalar.read_scalar.Goals as goal

pub returns-in-Array-clause-in_range : goal.returns-in-Array-clause-in_range
returns-in-Array-clause-in_range c = grind (arith, common_steps)

pub returns-in-Bool-clause-in_range : goal.returns-in-Bool-clause-in_range
returns-in-Bool-clause-in_range c = grind (arith, common_steps)

pub returns-in-None-clause-in_range : goal.returns-in-None-clause-in_range
returns-in-None-clause-in_range c = grind (arith, common_steps)

pub returns-in-Null-clause-in_range : goal.returns-in-Null-clause-in_range
returns-in-Null-clause-in_range c = grind (arith, common_steps)

pub returns-in-Some-clause-in_range : goal.returns-in-Some-clause-in_range
returns-in-Some-clause-in_range c = grind (arith, common_steps)

pub returns-in_ok-from_str-in-String-clause-in_range : goal.returns-in_ok-from_str-in-String-clause-in_range
returns-in_ok-from_str-in-String-clause-in_range c = grind (arith, common_steps)
