use Rattle.std.proofs.Common.{refl}
use Rattle.xarch_parts.specs.Ends.{IsInside, IsOfFolder}
use Rattle.xarch_parts.specs.EndLaws.{IsOfFolder-inside}
use Rattle.xarch_parts.specs.CoreLaws.{core-front}
use Rattle.xarch_reads.proofs.check.versions_before.Goals as goal

pub returns-in-Ok-clause-reads : goal.returns-in-Ok-clause-reads
unfolding IsOfFolder IsInside
returns-in-Ok-clause-reads g c = let e = c.check.ensures in record { same_files = e.files; same_draft = e.draft; pulls = e.pulls; later = e.later; cause = tt }

pub returns-in-Ok-clause-sound : goal.returns-in-Ok-clause-sound
returns-in-Ok-clause-sound g c = λ files bytes told core. c.in-Ok.ensures.sound files bytes told (core-front files c.args.archive.now c.args.core bytes core)

pub returns-in-Err-Damage-clause-reads : goal.returns-in-Err-Damage-clause-reads
returns-in-Err-Damage-clause-reads g c = let e = c.check.ensures in record { same_files = e.files; same_draft = e.draft; pulls = e.pulls; later = e.later; cause = IsOfFolder-inside _ _ _ c.damaged.ensures.inside }

pub returns-in-Err-Damage-clause-refused : goal.returns-in-Err-Damage-clause-refused
returns-in-Err-Damage-clause-refused g c = λ files bytes q told core e.
    let unsound = rw c.in-Err-Damage.field-0-is at c.in-Err-Damage.ensures.damage in
    (c.damaged.ensures.only q e, unsound files bytes told (core-front files c.args.archive.now c.args.core bytes core) refl)

pub returns-in-Err-Folder-clause-reads : goal.returns-in-Err-Folder-clause-reads
unfolding IsOfFolder
returns-in-Err-Folder-clause-reads g c = let e = c.check.ensures in record { same_files = e.files; same_draft = e.draft; pulls = e.pulls; later = e.later; cause = (rw c.in-Err-Folder.field-0-is at c.in-Err-Folder.ensures.cause) refl }

pub returns-in-Err-Memory-clause-reads : goal.returns-in-Err-Memory-clause-reads
unfolding IsOfFolder IsInside
returns-in-Err-Memory-clause-reads g c = let e = c.check.ensures in record { same_files = e.files; same_draft = e.draft; pulls = e.pulls; later = e.later; cause = tt }
