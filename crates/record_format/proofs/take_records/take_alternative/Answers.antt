use Rattle.xa_fields.specs.Reading.{whole, both_at}
use Rattle.std.proofs.Common.{arith}
use Rattle.std.proofs.lemmas.Grind.{common_steps}
use Rattle.record_format.proofs.take_records.take_alternative.Goals as goal

pub returns : goal.returns
unfolding whole both_at
returns c = grind (arith, common_steps)

pub returns-then-at-body : goal.returns-then-at-body
unfolding whole both_at
returns-then-at-body c = grind (arith, common_steps)
