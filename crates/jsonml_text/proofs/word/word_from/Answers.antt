use Rattle.std.proofs.Common.{arith}
use Rattle.std.proofs.lemmas.Grind.{common_steps}
use Rattle.jsonml_text.proofs.word.word_from.Goals as goal

pub returns-in-false-clause-in_range : goal.returns-in-false-clause-in_range
returns-in-false-clause-in_range c = grind (arith, common_steps)

pub returns-in-false-clause-text : goal.returns-in-false-clause-text
returns-in-false-clause-text c = grind (arith, common_steps)

pub returns-in-false-clause-word : goal.returns-in-false-clause-word
returns-in-false-clause-word c = grind (arith, common_steps)

pub returns-in-null-clause-in_range : goal.returns-in-null-clause-in_range
returns-in-null-clause-in_range c = grind (arith, common_steps)

pub returns-in-null-clause-text : goal.returns-in-null-clause-text
returns-in-null-clause-text c = grind (arith, common_steps)

pub returns-in-null-clause-word : goal.returns-in-null-clause-word
returns-in-null-clause-word c = grind (arith, common_steps)

pub returns-in-true-clause-in_range : goal.returns-in-true-clause-in_range
returns-in-true-clause-in_range c = grind (arith, common_steps)

pub returns-in-true-clause-text : goal.returns-in-true-clause-text
returns-in-true-clause-text c = grind (arith, common_steps)

pub returns-in-true-clause-word : goal.returns-in-true-clause-word
returns-in-true-clause-word c = grind (arith, common_steps)

pub returns-in_ok-whole_from-in_default-clause-in_range : goal.returns-in_ok-whole_from-in_default-clause-in_range
returns-in_ok-whole_from-in_default-clause-in_range c = grind (arith, common_steps)

pub returns-in_ok-whole_from-in_default-clause-text : goal.returns-in_ok-whole_from-in_default-clause-text
returns-in_ok-whole_from-in_default-clause-text c = grind (arith, common_steps)

pub returns-in_ok-whole_from-in_default-clause-word : goal.returns-in_ok-whole_from-in_default-clause-word
returns-in_ok-whole_from-in_default-clause-word c = grind (arith, common_steps)
