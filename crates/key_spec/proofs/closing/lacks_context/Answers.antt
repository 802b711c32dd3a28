use Rattle.std.proofs.Common.{arith}
use Rattle.std.proofs.lemmas.Grind.{common_steps}
use Rattle.key_spec.proofs.closing.lacks_context.Goals as goal

pub returns-after-has_text : goal.returns-after-has_text
returns-after-has_text c = grind (arith, common_steps)

pub returns-else-not-is_empty : goal.returns-else-not-is_empty
returns-else-not-is_empty c = grind (arith, common_steps)
