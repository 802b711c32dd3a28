use Rattle.xarch_meanings.proofs.OneStep.{one_outcome, one_step}
use Rattle.xarch_meanings.proofs.laws.commands_take_one_step.Goals as goal

pub returns-clause-outcome : goal.returns-clause-outcome
returns-clause-outcome c = one_outcome c.archives_stand_for_one_list.ensures.one_archive c.versions_have_one_file.ensures.one_file c.full_files_have_one_reading.ensures.file c.full_files_have_one_reading.ensures.defined c.full_files_have_one_reading.ensures.reading c.texts_have_one_reading.ensures.reading c.versions_have_one_rekeying.ensures.one_list c.versions_have_one_rekeying.ensures.one_fault c.versions_have_one_rekeying.ensures.apart

pub returns-clause-step : goal.returns-clause-step
returns-clause-step c = one_step c.archives_stand_for_one_list.ensures.one_archive c.versions_have_one_file.ensures.one_file c.full_files_have_one_reading.ensures.file c.full_files_have_one_reading.ensures.defined c.full_files_have_one_reading.ensures.reading c.texts_have_one_reading.ensures.reading c.versions_have_one_rekeying.ensures.one_list c.versions_have_one_rekeying.ensures.one_fault c.versions_have_one_rekeying.ensures.apart
