use Rattle.jsonml_lines.proofs.PlainCells.{well}
use Rattle.jsonml_lines.proofs.Taking.{line_of-printed}
use Rattle.jsonml_lines.proofs.read.line_of.Goals as goal

pub returns-in-Some-clause-line : goal.returns-in-Some-clause-line
returns-in-Some-clause-line c = line_of-printed c.args.front.now c.in-Some.line (rw c.in-Some.is at c.in_ok-line.ensures.text) (rw c.in-Some.is at c.in_ok-line.ensures.line)

pub returns-in-Some-clause-well_formed : goal.returns-in-Some-clause-well_formed
returns-in-Some-clause-well_formed c = well _ (rw c.in-Some.is at c.in_ok-line.ensures.line)
