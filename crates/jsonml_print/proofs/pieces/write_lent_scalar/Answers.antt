use Rattle.std.proofs.Common.{arith}
use Rattle.std.proofs.lemmas.Grind.{common_steps}
use Rattle.jsonml_print.proofs.pieces.write_lent_scalar.Goals as goal

pub returns-in-Bool-false-clause-bytes : goal.returns-in-Bool-false-clause-bytes
returns-in-Bool-false-clause-bytes g c = grind (arith, common_steps)

pub returns-in-Bool-false-clause-cause : goal.returns-in-Bool-false-clause-cause
returns-in-Bool-false-clause-cause g c = grind (arith, common_steps)

pub returns-in-Bool-true-clause-bytes : goal.returns-in-Bool-true-clause-bytes
returns-in-Bool-true-clause-bytes g c = grind (arith, common_steps)

pub returns-in-Bool-true-clause-cause : goal.returns-in-Bool-true-clause-cause
returns-in-Bool-true-clause-cause g c = grind (arith, common_steps)

pub returns-in-Null-clause-bytes : goal.returns-in-Null-clause-bytes
returns-in-Null-clause-bytes g c = grind (arith, common_steps)

pub returns-in-Null-clause-cause : goal.returns-in-Null-clause-cause
returns-in-Null-clause-cause g c = grind (arith, common_steps)

pub returns-in-Text-clause-bytes : goal.returns-in-Text-clause-bytes
returns-in-Text-clause-bytes g c = grind (arith, common_steps)

pub returns-in-Text-clause-cause : goal.returns-in-Text-clause-cause
returns-in-Text-clause-cause g c = grind (arith, common_steps)

pub returns-in-Whole-clause-bytes : goal.returns-in-Whole-clause-bytes
returns-in-Whole-clause-bytes g c = grind (arith, common_steps)

pub returns-in-Whole-clause-cause : goal.returns-in-Whole-clause-cause
returns-in-Whole-clause-cause g c = grind (arith, common_steps)
