use Rattle.archive_text.proofs.Readables.{parts_of_text}
use Rattle.archive_text.proofs.laws.texts_can_be_read.Goals as goal

pub returns : goal.returns
returns c =
    parts_of_text c.archives_stand_for_one_list.ensures.one_archive c.sound_archives_have_one_reading.ensures.texts c.keyed_versions_can_be_merged.ensures.shaped c.sound_archives_have_one_reading.ensures.nested
