use Rattle.xarch_parts.specs.Ends.{IsInside, IsOfFolder}
use Rattle.xarch_parts.specs.FolderLaws.{caused-folder, writes-committed, writes-refused}
use Rattle.xarch_parts.proofs.archives.commit.Goals as goal

pub returns-in-Ok-clause-caused : goal.returns-in-Ok-clause-caused
unfolding IsInside IsOfFolder
returns-in-Ok-clause-caused g c = λ out. caused-folder _ _ out _ c.commit.ensures.cause.later tt

pub returns-in-Err-clause-caused : goal.returns-in-Err-clause-caused
unfolding IsInside IsOfFolder
returns-in-Err-clause-caused g c = λ out. caused-folder _ _ out _ c.commit.ensures.cause.later c.in-Err.ensures.cause.failed

pub returns-in-Ok-clause-writes : goal.returns-in-Ok-clause-writes
returns-in-Ok-clause-writes g c = writes-committed _ _ _ (g.met.F.Folder.metered c.args.folder.now) c.in-Ok.ensures.files c.in-Ok.ensures.draft c.commit.ensures.numbers

pub returns-in-Err-clause-writes : goal.returns-in-Err-clause-writes
returns-in-Err-clause-writes g c = let kept = c.in-Err.ensures.err in
    writes-refused _ _ _ (g.met.F.Folder.metered c.args.folder.now) kept.0 kept.1 c.commit.ensures.numbers
