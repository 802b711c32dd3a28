use Rattle.std.proofs.Common.{◌++◌, None, Some, map, refl, ◌∙◌}
use Rattle.std.specs.Prelude.{string_bytes}
use Rattle.version_notes.specs.Notes.{notes_part}
use Rattle.xarch_words.specs.Refusal.{folder_fault}
use Rattle.xarch_parts.specs.AllowedLaws.{IfErr-passed, commit-tells}
use Rattle.xarch_parts.specs.EndLaws.{OnOk-passed}
use Rattle.xarch_parts.specs.FolderLaws.{caused-folder, caused-passed, caused-then, writes-kept, writes-passed, writes-then}
use Rattle.xarch_parts.proofs.Pushing.{drafted-more, no-fault, of-folder}
use Rattle.xarch_parts.proofs.notes.store_noted.Goals as goal

-- ---- the archive is not drafted

pub returns-in_err-draft-clause-writes : goal.returns-in_err-draft-clause-writes
returns-in_err-draft-clause-writes g c = writes-passed _ _ c.from_residual.result _ c.from_residual.ensures.1 c.in_err-draft.ensures.writes

pub returns-in_err-draft-clause-caused : goal.returns-in_err-draft-clause-caused
returns-in_err-draft-clause-caused g c = λ out. caused-passed _ _ _ _ c.from_residual.result _ c.from_residual.ensures.1 (c.in_err-draft.ensures.caused out)

pub returns-in_err-draft-clause-stored : goal.returns-in_err-draft-clause-stored
returns-in_err-draft-clause-stored g c = λ files told. OnOk-passed c.from_residual.result _ _ c.from_residual.ensures.1

pub returns-in_err-draft-clause-fault : goal.returns-in_err-draft-clause-fault
returns-in_err-draft-clause-fault g c = IfErr-passed c.from_residual.result _ _ c.from_residual.ensures.1 c.in_err-draft.ensures.fault

-- ---- its notes are

pub returns-in-Ok-clause-writes : goal.returns-in-Ok-clause-writes
returns-in-Ok-clause-writes g c =
    let d = c.in_ok-draft.ensures in
    let p = c.in-Ok.ensures in
    writes-then _ _ _ _ (writes-then _ _ _ None d.writes d.files p.writes) (p.files ∙ d.files) c.commit.ensures.writes

pub returns-in-Ok-clause-caused : goal.returns-in-Ok-clause-caused
returns-in-Ok-clause-caused g c = λ out.
    caused-then _ _ _ _ _ _ _ (caused-then _ _ _ _ _ _ None (c.in_ok-draft.ensures.caused out) (caused-folder _ _ out None c.in-Ok.ensures.cause.later (no-fault _ _))) (c.commit.ensures.caused out)

pub returns-in-Ok-clause-stored : goal.returns-in-Ok-clause-stored
returns-in-Ok-clause-stored g c = λ files told.
    let f = g.F.Folder in
    let core = c.args.core.now in
    let part = notes_part (map string_bytes c.args.notes.now) in
    let d = c.in_ok-draft.ensures in
    let p = c.in-Ok.ensures in
    commit-tells c.commit.result files _ _ _ c.args.name.now (core ++ part) c.commit.ensures.committed (p.files ∙ d.files ∙ told) (drafted-more (f.draft c.draft.new.folder) (f.draft c.push_notes.new.folder) core part d.drafted p.gains)

pub returns-in-Ok-clause-fault : goal.returns-in-Ok-clause-fault
returns-in-Ok-clause-fault g c = c.commit.ensures.fault

-- ---- they are not

pub returns-in-Err-clause-writes : goal.returns-in-Err-clause-writes
returns-in-Err-clause-writes g c =
    let d = c.in_ok-draft.ensures in
    let p = c.in-Err.ensures in
    writes-kept _ _ None _ (writes-then _ _ _ None d.writes d.files p.writes) (p.files ∙ d.files)

pub returns-in-Err-clause-caused : goal.returns-in-Err-clause-caused
returns-in-Err-clause-caused g c = λ out.
    caused-then _ _ _ _ _ _ _ (c.in_ok-draft.ensures.caused out) (caused-folder _ _ out (Some folder_fault) c.in-Err.ensures.cause.later (of-folder _ _ folder_fault refl c.in-Err.ensures.cause.failed))
