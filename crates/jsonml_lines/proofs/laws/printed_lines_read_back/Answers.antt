use Rattle.jsonml_lines.proofs.LineTrips.{line_reads_back, cell_reads_back}
use Rattle.jsonml_lines.proofs.laws.printed_lines_read_back.Goals as goal

pub returns-clause-line : goal.returns-clause-line
returns-clause-line c = line_reads_back

pub returns-clause-cell : goal.returns-clause-cell
returns-clause-cell c = cell_reads_back
