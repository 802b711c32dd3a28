use Rattle.xarch_meanings.proofs.VersionTexts.{all-versions, archive_in, archives, versions_in}
use Rattle.xarch_meanings.proofs.laws.archives_tell_their_versions.Goals as goal

pub returns-clause-archive : goal.returns-clause-archive
returns-clause-archive c = (archive_in, archives c.records_are_read_as_spelled.ensures.records.again c.files_give_their_items.ensures.header c.archives_stand_for_one_list.ensures.versions)

pub returns-clause-versions : goal.returns-clause-versions
returns-clause-versions c = (versions_in, all-versions c.records_are_read_as_spelled.ensures.records.again c.files_give_their_items.ensures.header c.archives_stand_for_one_list.ensures.versions)
