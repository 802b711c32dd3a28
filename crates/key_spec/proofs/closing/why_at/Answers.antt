use Rattle.std.proofs.Common.{arith}
use Rattle.std.proofs.lemmas.Grind.{common_steps}
use Rattle.key_spec.proofs.closing.why_at.Goals as goal

pub returns-then-lacks_context : goal.returns-then-lacks_context
returns-then-lacks_context c = grind (arith, common_steps)

pub returns-then-has_text : goal.returns-then-has_text
returns-then-has_text c = grind (arith, common_steps)

pub returns-then-has_text-2 : goal.returns-then-has_text-2
returns-then-has_text-2 c = grind (arith, common_steps)

pub returns-then-branch : goal.returns-then-branch
returns-then-branch c = grind (arith, common_steps)

pub returns : goal.returns
returns c = grind (arith, common_steps)
