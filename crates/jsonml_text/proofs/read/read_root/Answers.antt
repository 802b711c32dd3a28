use Rattle.std.proofs.Common.{arith}
use Rattle.std.proofs.lemmas.Grind.{common_steps}
use Rattle.jsonml_text.proofs.read.read_root.Goals as goal

pub returns-in-Array-clause-element : goal.returns-in-Array-clause-element
returns-in-Array-clause-element c = grind (arith, common_steps)

pub returns-in-Array-clause-kept : goal.returns-in-Array-clause-kept
returns-in-Array-clause-kept c = grind (arith, common_steps)

pub returns-in-String-clause-element : goal.returns-in-String-clause-element
returns-in-String-clause-element c = grind (arith, common_steps)

pub returns-in-String-clause-kept : goal.returns-in-String-clause-kept
returns-in-String-clause-kept c = grind (arith, common_steps)
