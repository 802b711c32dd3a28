use Rattle.std.proofs.Common.{arith}
use Rattle.std.proofs.lemmas.Grind.{common_steps}
use Rattle.key_spec.proofs.given.clashes.Goals as goal

pub returns-then-branch : goal.returns-then-branch
returns-then-branch c = grind (arith, common_steps)

pub returns-then-paths-gt1 : goal.returns-then-paths-gt1
returns-then-paths-gt1 c = grind (arith, common_steps)

pub returns-else-paths-gt1 : goal.returns-else-paths-gt1
returns-else-paths-gt1 c = grind (arith, common_steps)
