use Rattle.std.proofs.Common.{arith}
use Rattle.std.proofs.lemmas.Grind.{common_steps}
use Rattle.jsonml_print.proofs.printer.Printer.lent_attr.Goals as goal

pub returns-clause-cause : goal.returns-clause-cause
returns-clause-cause g c = grind (arith, common_steps)

pub returns-clause-prints : goal.returns-clause-prints
returns-clause-prints g c = grind (arith, common_steps)
