use Rattle.archive_tree.specs.ArchiveView.{archive_view}
use Rattle.xarch_parts.specs.Ends.{IsInside}
use Rattle.xarch_texts.proofs.export.archive_from.Goals as goal

pub returns-in-Ok-clause-cause : goal.returns-in-Ok-clause-cause
unfolding IsInside
returns-in-Ok-clause-cause c = tt

pub returns-in-Ok-clause-read : goal.returns-in-Ok-clause-read
returns-in-Ok-clause-read c =
    let archive = c.in-Ok.read.1 in
    let kept = c.archives_stand_for_one_list.ensures.told (archive_view archive) archive.stands in
    record { versions = kept.versions; of = kept.is; sound = c.in-Ok.ensures.sound kept.versions kept.is }

pub returns-in-Err-Damage-clause-cause : goal.returns-in-Err-Damage-clause-cause
returns-in-Err-Damage-clause-cause c = c.damaged.ensures.inside

pub returns-in-Err-Damage-clause-damage : goal.returns-in-Err-Damage-clause-damage
returns-in-Err-Damage-clause-damage c = λ q e.
    let unsound = rw c.in-Err-Damage.field-0-is at c.in-Err-Damage.ensures.damage in
    (c.damaged.ensures.only q e, (λ s. unsound s.rules s.versions s.is))

pub returns-in-Err-Memory-clause-cause : goal.returns-in-Err-Memory-clause-cause
unfolding IsInside
returns-in-Err-Memory-clause-cause c = tt

pub returns-in-Err-Memory-clause-damage : goal.returns-in-Err-Memory-clause-damage
returns-in-Err-Memory-clause-damage c = λ q e. absurd cc
