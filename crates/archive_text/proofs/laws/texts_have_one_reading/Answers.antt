use Rattle.std.proofs.Common.{sym, ap, ◌∙◌}
use Rattle.archive_text.specs.Export.{export_text}
use Rattle.archive_text.proofs.OneExport.{one_export}
use Rattle.archive_text.proofs.laws.texts_have_one_reading.Goals as goal

pub returns-clause-text : goal.returns-clause-text
returns-clause-text c = λ held a b h k.
    h.spelled ∙ ap (λ x. export_text held.rules x held.notes) (c.archives_stand_for_one_list.ensures.one_archive held.versions h.archive k.archive h.is k.is) ∙ sym k.spelled

pub returns-clause-reading : goal.returns-clause-reading
returns-clause-reading c =
    one_export c.printed_lines_read_back.ensures.line c.archives_stand_for_one_list.ensures.one_archive c.archives_stand_for_one_list.ensures.one_list c.sound_archives_have_one_reading.ensures.texts c.keyed_versions_can_be_merged.ensures.shaped
