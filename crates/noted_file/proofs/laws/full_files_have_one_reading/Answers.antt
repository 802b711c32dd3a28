use Rattle.noted_file.proofs.Parts.{as_file, file-one}
use Rattle.noted_file.proofs.Readings.{full-one}
use Rattle.noted_file.proofs.laws.full_files_have_one_reading.Goals as goal

pub returns-clause-reading : goal.returns-clause-reading
returns-clause-reading c = full-one

pub returns-clause-file : goal.returns-clause-file
returns-clause-file c = file-one

pub returns-clause-defined : goal.returns-clause-defined
returns-clause-defined c = as_file
