use Rattle.xarch_meanings.proofs.VersionTexts.{text_in, texts}
use Rattle.xarch_meanings.proofs.laws.archives_tell_their_texts.Goals as goal

pub returns : goal.returns
returns c = (text_in, texts c.records_are_read_as_spelled.ensures.records.again c.files_give_their_items.ensures.header c.archives_stand_for_one_list.ensures.versions)
