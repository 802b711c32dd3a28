use Rattle.xarch_words.specs.View.{fault_view}
use Rattle.xarch_parts.proofs.FrontLemmas.{parts-refused}
use Rattle.xarch_parts.proofs.fronts.read_parts.Goals as goal

pub returns-in-Err-Damage-clause-told : goal.returns-in-Err-Damage-clause-told
returns-in-Err-Damage-clause-told g c = λ files told long. parts-refused files c.args.name.now c.args.size (fault_view c.damaged.result) long (rw c.in-Err-Damage.field-0-is at c.in-Err-Damage.ensures.told files told) c.damaged.ensures.only
