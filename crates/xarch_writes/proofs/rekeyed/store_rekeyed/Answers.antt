use Rattle.std.proofs.Common.{◌++◌, None, Some, map, refl, ◌∙◌}
use Rattle.std.specs.Prelude.{string_bytes}
use Rattle.key_spec.specs.View.{spec_view}
use Rattle.spelled_archive.specs.ArchiveView.{spelled_archive_view}
use Rattle.version_notes.specs.Notes.{notes_part}
use Rattle.xarch_words.specs.Refusal.{folder_fault}
use Rattle.xarch_words.specs.View.{fault_view}
use Rattle.xarch_parts.specs.AllowedLaws.{commit-tells}
use Rattle.xarch_parts.specs.FolderLaws.{caused-folder, caused-passed, caused-then, writes-kept, writes-then}
use Rattle.xarch_parts.proofs.Pushing.{drafted-more, no-fault, of-folder}
use Rattle.xarch_writes.specs.Rekeyed.{StoreEnds}
use Rattle.xarch_writes.proofs.Growing.{ended-by}
use Rattle.xarch_writes.proofs.Storing.{stored-ends, undrafted}
use Rattle.xarch_writes.proofs.rekeyed.store_rekeyed.Goals as goal

-- ---- the archive is not drafted

pub returns-in_err-draft_archive-clause-writes : goal.returns-in_err-draft_archive-clause-writes
returns-in_err-draft_archive-clause-writes g c = (let d = c.in_err-draft_archive.ensures in writes-kept _ _ None _ d.writes d.same_files)

pub returns-in_err-draft_archive-clause-caused : goal.returns-in_err-draft_archive-clause-caused
returns-in_err-draft_archive-clause-caused g c = λ out. (let d = c.in_err-draft_archive.ensures in caused-passed _ _ _ _ c.from_residual.result _ c.from_residual.ensures.1 (caused-folder _ _ out _ d.later d.cause))

pub returns-in_err-draft_archive-clause-ends : goal.returns-in_err-draft_archive-clause-ends
returns-in_err-draft_archive-clause-ends g c = λ files told.
    let new = c.args.new.now in
    let rules = spec_view new.spec in
    let a = spelled_archive_view new.archive in
    let notes = map string_bytes new.notes.items in
    let after = g.F.Folder.files c.draft_archive.new.folder in
    let d = c.in_err-draft_archive.ensures in
    let fault = c.in_err-draft_archive.field-0.0 in
    ended-by c.from_residual.result fault c.from_residual.ensures.1 (λ v. StoreEnds files c.args.name.now rules a notes after v) (undrafted files c.args.name.now rules a notes after d.bytes (fault_view fault) d.ends)

-- ---- its notes are

pub returns-in-Ok-clause-writes : goal.returns-in-Ok-clause-writes
returns-in-Ok-clause-writes g c =
    let d = c.in_ok-draft_archive.ensures in
    let p = c.in-Ok.ensures in
    writes-then _ _ _ _ (writes-then _ _ _ None d.writes d.same_files p.writes) (p.files ∙ d.same_files) c.commit.ensures.writes

pub returns-in-Ok-clause-caused : goal.returns-in-Ok-clause-caused
returns-in-Ok-clause-caused g c = λ out.
    let d = c.in_ok-draft_archive.ensures in
    caused-then _ _ _ _ _ _ _ (caused-then _ _ _ _ _ _ None (caused-folder _ _ out None d.later d.cause) (caused-folder _ _ out None c.in-Ok.ensures.cause.later (no-fault _ _))) (c.commit.ensures.caused out)

pub returns-in-Ok-clause-ends : goal.returns-in-Ok-clause-ends
returns-in-Ok-clause-ends g c = λ files told.
    let f = g.F.Folder in
    let new = c.args.new.now in
    let name = c.args.name.now in
    let notes = map string_bytes new.notes.items in
    let d = c.in_ok-draft_archive.ensures in
    let p = rw c.deref.ensures.value at c.in-Ok.ensures in
    let bytes = d.bytes ++ notes_part notes in
    stored-ends files name (spec_view new.spec) (spelled_archive_view new.archive) notes (f.files c.commit.new.folder) d.bytes c.commit.result d.ends
    (commit-tells c.commit.result files _ _ _ name bytes c.commit.ensures.committed (p.files ∙ d.same_files ∙ told) (drafted-more (f.draft c.draft_archive.new.folder) (f.draft c.push_notes.new.folder) d.bytes (notes_part notes) d.drafted p.gains)) c.commit.ensures.fault

-- ---- they are not

pub returns-in-Err-clause-writes : goal.returns-in-Err-clause-writes
returns-in-Err-clause-writes g c =
    let d = c.in_ok-draft_archive.ensures in
    let p = c.in-Err.ensures in
    writes-kept _ _ None _ (writes-then _ _ _ None d.writes d.same_files p.writes) (p.files ∙ d.same_files)

pub returns-in-Err-clause-caused : goal.returns-in-Err-clause-caused
returns-in-Err-clause-caused g c = λ out.
    let d = c.in_ok-draft_archive.ensures in
    caused-then _ _ _ _ _ _ _ (caused-folder _ _ out None d.later d.cause) (caused-folder _ _ out (Some folder_fault) c.in-Err.ensures.cause.later (of-folder _ _ folder_fault refl c.in-Err.ensures.cause.failed))

pub returns-in-Err-clause-ends : goal.returns-in-Err-clause-ends
returns-in-Err-clause-ends g c = λ files told. tt
