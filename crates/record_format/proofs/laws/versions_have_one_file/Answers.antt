use Rattle.record_format.proofs.HeaderLaws.{one_file, file_header, file_fixed}
use Rattle.record_format.proofs.laws.versions_have_one_file.Goals as goal

pub returns-clause-one_file : goal.returns-clause-one_file
returns-clause-one_file c = one_file

pub returns-clause-header : goal.returns-clause-header
returns-clause-header c = file_header

pub returns-clause-fixed : goal.returns-clause-fixed
returns-clause-fixed c = file_fixed
