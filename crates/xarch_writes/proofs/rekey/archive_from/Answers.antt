use Rattle.archive_file.proofs.ShapedArchives.{sound-texts}
use Rattle.key_spec.specs.View.{spec_view}
use Rattle.xarch_parts.specs.Ends.{IsInside}
use Rattle.xarch_writes.proofs.RekeyEnds.{no-memory}
use Rattle.xarch_writes.proofs.rekey.archive_from.Goals as goal

pub returns-in-Ok-clause-sound : goal.returns-in-Ok-clause-sound
returns-in-Ok-clause-sound c = λ vs is. record { rules = spec_view c.in-Ok.field-0-0; is = c.in-Ok.ensures.sound vs is }

pub returns-in-Ok-clause-documents : goal.returns-in-Ok-clause-documents
returns-in-Ok-clause-documents c = λ vs is.
    let rules = spec_view c.in-Ok.field-0-0 in
    let sound = c.in-Ok.ensures.sound vs is in
    record {
      documents = record { proper = c.decode_file.ensures.plain rules vs sound; items = c.decode_file.ensures.items rules vs sound };
      texts = sound-texts rules vs c.args.bytes.now sound;
    }

pub returns-in-Err-Damage-clause-cause : goal.returns-in-Err-Damage-clause-cause
returns-in-Err-Damage-clause-cause c = c.damaged.ensures.inside

pub returns-in-Err-Damage-clause-damage : goal.returns-in-Err-Damage-clause-damage
returns-in-Err-Damage-clause-damage c = λ q e.
    let unsound = rw c.in-Err-Damage.field-0-is at c.in-Err-Damage.ensures.damage in
    record { unsound = unsound; is = c.damaged.ensures.only q e }

pub returns-clause-cause : goal.returns-clause-cause
unfolding IsInside
returns-clause-cause c = tt

pub returns-clause-damage : goal.returns-clause-damage
returns-clause-damage c = λ q e. no-memory q e

pub returns-in-Ok-clause-cause : goal.returns-in-Ok-clause-cause
unfolding IsInside
returns-in-Ok-clause-cause c = tt
