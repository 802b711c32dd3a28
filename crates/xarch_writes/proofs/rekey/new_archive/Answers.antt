use Rattle.std.proofs.Common.{◌+◌, map, sym, ◌∙◌, arith}
use Rattle.std.specs.Prelude.{string_bytes}
use Rattle.key_spec.specs.View.{spec_view}
use Rattle.archive_tree.specs.ArchiveView.{archive_view}
use Rattle.spelled_archive.specs.ArchiveView.{spelled_archive_view}
use Rattle.xarch_words.specs.declared.limits.TheConstants.{SPECIFICATION}
use Rattle.xarch_parts.specs.AllowedLaws.{IfErr-passed, defined_refused}
use Rattle.xarch_parts.specs.EndLaws.{IfOk-passed}
use Rattle.xarch_parts.specs.FolderLaws.{reads-inside, reads-more, reads-passed, reads-then}
use Rattle.xarch_parts.specs.Inputs.{size_in}
use Rattle.xarch_parts.specs.Noted.{notes_bytes}
use Rattle.xarch_meanings.specs.Rekey.{rekey_rules}
use Rattle.xarch_writes.proofs.RekeyEnds.{may-store, rekey_bad, rekey_damaged, rekey_refused_early}
use Rattle.xarch_writes.proofs.rekey.new_archive.Goals as goal

-- ---- the new keys are not read

pub returns-in_err-parts-clause-reads : goal.returns-in_err-parts-clause-reads
returns-in_err-parts-clause-reads g c = let n = size_in (g.F.Folder.files c.args.folder.now) c.args.archive.now in
    reads-passed _ _ _ c.from_residual.result _ c.from_residual.ensures.1 (reads-more (n + (16 + SPECIFICATION)) _ _ _ _ (omega arith) c.in_err-parts.ensures.reads)

pub returns-in_err-parts-clause-stored : goal.returns-in_err-parts-clause-stored
returns-in_err-parts-clause-stored g c = λ files told. IfOk-passed c.from_residual.result _ _ c.from_residual.ensures.1

pub returns-in_err-parts-clause-written : goal.returns-in_err-parts-clause-written
returns-in_err-parts-clause-written g c = IfOk-passed c.from_residual.result _ _ c.from_residual.ensures.1

pub returns-in_err-parts-clause-follow : goal.returns-in_err-parts-clause-follow
returns-in_err-parts-clause-follow g c = IfOk-passed c.from_residual.result _ _ c.from_residual.ensures.1

pub returns-in_err-parts-clause-refused : goal.returns-in_err-parts-clause-refused
returns-in_err-parts-clause-refused g c = λ files q told.
    IfErr-passed c.from_residual.result c.in_err-parts.field-0.0 _ c.from_residual.ensures.1
    (λ e. rekey_refused_early files c.args.archive.now c.args.spec.now q (defined_refused (rekey_rules files c.args.archive.now c.args.spec.now) _ q (c.in_err-parts.ensures.told files told) e))

-- ---- the archive is not read

pub returns-in_err-old-clause-reads : goal.returns-in_err-old-clause-reads
returns-in_err-old-clause-reads g c =
    let n = size_in (g.F.Folder.files c.args.folder.now) c.args.archive.now in
    let parts = c.in_ok-parts.parts in
    let within = c.in_ok-parts.ensures.within.within in
    reads-passed _ _ _ c.from_residual-in_err-old.result _ c.from_residual-in_err-old.ensures.1 (reads-then (n + (16 + SPECIFICATION)) (parts.core + notes_bytes parts.notes) _ _ _ _ _ (omega (arith, within)) c.in_ok-parts.ensures.reads c.in_err-old.ensures.reads)

pub returns-in_err-old-clause-stored : goal.returns-in_err-old-clause-stored
returns-in_err-old-clause-stored g c = λ files told. IfOk-passed c.from_residual-in_err-old.result _ _ c.from_residual-in_err-old.ensures.1

pub returns-in_err-old-clause-written : goal.returns-in_err-old-clause-written
returns-in_err-old-clause-written g c = IfOk-passed c.from_residual-in_err-old.result _ _ c.from_residual-in_err-old.ensures.1

pub returns-in_err-old-clause-follow : goal.returns-in_err-old-clause-follow
returns-in_err-old-clause-follow g c = IfOk-passed c.from_residual-in_err-old.result _ _ c.from_residual-in_err-old.ensures.1

pub returns-in_err-old-clause-refused : goal.returns-in_err-old-clause-refused
returns-in_err-old-clause-refused g c = λ files q told.
    let p = c.in_ok-parts.ensures in
    IfErr-passed c.from_residual-in_err-old.result c.in_err-old.field-0.0 _ c.from_residual-in_err-old.ensures.1
    (λ e. rekey_damaged files c.args.archive.now c.args.spec.now (spec_view c.in_ok-parts.spec) (p.told files told) q (c.in_err-old.ensures.damage files q (p.reads.same_files ∙ told) (p.are files told) e))

-- ---- its versions have no file

pub returns-in_err-archive-clause-reads : goal.returns-in_err-archive-clause-reads
returns-in_err-archive-clause-reads g c =
    let n = size_in (g.F.Folder.files c.args.folder.now) c.args.archive.now in
    let parts = c.in_ok-parts.parts in
    let within = c.in_ok-parts.ensures.within.within in
    reads-passed _ _ _ c.from_residual-in_err-archive.result _ c.from_residual-in_err-archive.ensures.1
    (reads-inside _ _ _ _ (reads-then (n + (16 + SPECIFICATION)) (parts.core + notes_bytes parts.notes) _ _ _ _ _ (omega (arith, within)) c.in_ok-parts.ensures.reads c.in_ok-old.ensures.reads) c.in_err-archive.ensures.cause)

pub returns-in_err-archive-clause-stored : goal.returns-in_err-archive-clause-stored
returns-in_err-archive-clause-stored g c = λ files told. IfOk-passed c.from_residual-in_err-archive.result _ _ c.from_residual-in_err-archive.ensures.1

pub returns-in_err-archive-clause-written : goal.returns-in_err-archive-clause-written
returns-in_err-archive-clause-written g c = IfOk-passed c.from_residual-in_err-archive.result _ _ c.from_residual-in_err-archive.ensures.1

pub returns-in_err-archive-clause-follow : goal.returns-in_err-archive-clause-follow
returns-in_err-archive-clause-follow g c = IfOk-passed c.from_residual-in_err-archive.result _ _ c.from_residual-in_err-archive.ensures.1

pub returns-in_err-archive-clause-refused : goal.returns-in_err-archive-clause-refused
returns-in_err-archive-clause-refused g c = λ files q told.
    let p = c.in_ok-parts.ensures in
    let kept = c.archives_stand_for_one_list.ensures.told (archive_view c.in_ok-old.old) c.in_ok-old.old.stands in
    let opened = c.in_ok-old.ensures.opened files (p.reads.same_files ∙ told) (p.are files told) kept.versions kept.is in
    IfErr-passed c.from_residual-in_err-archive.result c.in_err-archive.field-0.0 _ c.from_residual-in_err-archive.ensures.1
    (λ e. rekey_bad files c.args.archive.now c.args.spec.now (spec_view c.in_ok-parts.spec) (p.told files told) c.full_files_have_one_reading.ensures.reading kept.versions (map string_bytes c.in_ok-old.notes.items) opened q
    (c.in_err-archive.ensures.refused kept.versions q kept.is e))

-- ---- they have one

pub returns-clause-reads : goal.returns-clause-reads
returns-clause-reads g c =
    let n = size_in (g.F.Folder.files c.args.folder.now) c.args.archive.now in
    let parts = c.in_ok-parts.parts in
    let within = c.in_ok-parts.ensures.within.within in
    reads-then (n + (16 + SPECIFICATION)) (parts.core + notes_bytes parts.notes) _ _ _ _ _ (omega (arith, within)) c.in_ok-parts.ensures.reads c.in_ok-old.ensures.reads

pub returns-clause-stored : goal.returns-clause-stored
returns-clause-stored g c = λ files told.
    let p = c.in_ok-parts.ensures in
    let kept = c.archives_stand_for_one_list.ensures.told (archive_view c.in_ok-old.old) c.in_ok-old.old.stands in
    let opened = c.in_ok-old.ensures.opened files (p.reads.same_files ∙ told) (p.are files told) kept.versions kept.is in
    may-store files c.args.archive.now c.args.spec.now (spec_view c.in_ok-parts.spec) (p.told files told) c.full_files_have_one_reading.ensures.reading kept.versions (map string_bytes c.in_ok-old.notes.items) opened
    (spelled_archive_view c.in_ok-archive.archive) (c.in_ok-archive.ensures.under kept.versions kept.is)

pub returns-clause-written : goal.returns-clause-written
returns-clause-written g c = c.in_ok-archive.ensures.written

pub read_archive-requires : goal.read_archive-requires
read_archive-requires g c = c.in_ok-parts.ensures.within.room

pub returns-clause-follow : goal.returns-clause-follow
returns-clause-follow g c = c.in_ok-old.ensures.follow c.is_some.result (λ e. sym c.is_some.ensures ∙ e)
