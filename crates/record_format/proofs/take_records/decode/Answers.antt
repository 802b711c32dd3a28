use Rattle.std.proofs.Common.{ap, subst, ◌∙◌, arith}
use Rattle.record_format.specs.View.{rec_view}
use Rattle.record_parts.specs.Reading.{Gives}
use Rattle.record_format.specs.Reading.{whole_record}
use Rattle.record_format.proofs.Records.{is_found, is_damage, whole_record_only}
use Rattle.record_format.proofs.take_records.decode.Goals as goal

pub returns-clause-found : goal.returns-clause-found
returns-clause-found c = is_found c.args.bytes.now c.whole.result (λ i. omega (arith, c.type_inv.bytes i)) c.whole.ensures

pub returns-clause-only : goal.returns-clause-only
returns-clause-only c = λ r is e. subst (λ read. Gives rec_view c.whole.result read) (ap whole_record e ∙ whole_record_only r is) c.whole.ensures

pub returns-clause-damage : goal.returns-clause-damage
returns-clause-damage c = is_damage c.args.bytes.now c.whole.result c.whole.ensures
