use Rattle.std.proofs.Common.{arith}
use Rattle.std.proofs.lemmas.Grind.{common_steps}
use Rattle.key_annotate.proofs.label.order_values.Goals as goal

pub returns-in-Equal : goal.returns-in-Equal
returns-in-Equal c = grind (arith, common_steps)

pub returns-in_default : goal.returns-in_default
returns-in_default c = grind (arith, common_steps)

pub returns-in-Text-Other : goal.returns-in-Text-Other
returns-in-Text-Other c = grind (arith, common_steps)

pub returns-in-Other-Text : goal.returns-in-Other-Text
returns-in-Other-Text c = grind (arith, common_steps)

pub returns-in-Other-Other : goal.returns-in-Other-Other
returns-in-Other-Other c = grind (arith, common_steps)
