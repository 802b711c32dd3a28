use Rattle.archive_tree.specs.ArchiveView.{archive_view}
use Rattle.xarch_parts.specs.Ends.{IsInside}
use Rattle.xarch_texts.proofs.ImportEnds.{are-notes}
use Rattle.xarch_texts.proofs.import.file_of.Goals as goal

-- ---- the bytes are a text

pub returns-in-Ok-clause-cause : goal.returns-in-Ok-clause-cause
unfolding IsInside
returns-in-Ok-clause-cause c = tt

pub returns-in-Ok-clause-file : goal.returns-in-Ok-clause-file
returns-in-Ok-clause-file c =
    let k = c.in-Ok.kept in
    let one = c.archives_stand_for_one_list.ensures.told (archive_view k.archive) k.archive.stands in
    record { rules = _; versions = one.versions; spelled = record { archive = _; is = one.is; spelled = c.in-Ok.ensures.text }; full = c.in-Ok.ensures.file one.versions one.is }

pub returns-in-Ok-clause-notes : goal.returns-in-Ok-clause-notes
returns-in-Ok-clause-notes c = let k = c.in-Ok.kept in are-notes k.notes.items (archive_view k.archive).n c.in-Ok.ensures.few c.in-Ok.ensures.notes.1 c.in-Ok.ensures.notes.0

-- ---- they are none, or memory does not suffice

pub returns-in-Err-Bad-clause-cause : goal.returns-in-Err-Bad-clause-cause
unfolding IsInside
returns-in-Err-Bad-clause-cause c = tt

pub returns-in-Err-Memory-clause-cause : goal.returns-in-Err-Memory-clause-cause
unfolding IsInside
returns-in-Err-Memory-clause-cause c = tt
