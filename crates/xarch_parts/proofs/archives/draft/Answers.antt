use Rattle.xarch_parts.specs.Ends.{IsInside, IsOfFolder}
use Rattle.xarch_parts.specs.FolderLaws.{caused-folder, writes-drafted}
use Rattle.xarch_parts.proofs.archives.draft.Goals as goal

pub returns-in-Ok-clause-caused : goal.returns-in-Ok-clause-caused
unfolding IsInside IsOfFolder
returns-in-Ok-clause-caused g c = λ out. caused-folder _ _ out _ c.append.ensures.cause.later tt

pub returns-in-Err-clause-caused : goal.returns-in-Err-clause-caused
unfolding IsInside IsOfFolder
returns-in-Err-clause-caused g c = λ out. caused-folder _ _ out _ c.append.ensures.cause.later c.in-Err.ensures.cause.failed

pub returns-in-Ok-clause-writes : goal.returns-in-Ok-clause-writes
returns-in-Ok-clause-writes g c = writes-drafted _ _ _ _ c.append.ensures.files c.in-Ok.ensures.ok

pub returns-in-Err-clause-writes : goal.returns-in-Err-clause-writes
returns-in-Err-clause-writes g c = writes-drafted _ _ _ _ c.append.ensures.files c.in-Err.ensures.err.drafts
