use Rattle.archive_rekey.proofs.Rekeyings.{apart, one_fault, one_list}
use Rattle.archive_rekey.proofs.laws.versions_have_one_rekeying.Goals as goal

pub returns-clause-one_list : goal.returns-clause-one_list
returns-clause-one_list c = one_list

pub returns-clause-one_fault : goal.returns-clause-one_fault
returns-clause-one_fault c = one_fault

pub returns-clause-apart : goal.returns-clause-apart
returns-clause-apart c = apart
